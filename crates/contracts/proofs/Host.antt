-- What the contracts of `host` decide: any two outcomes that one allows are equal. The checker reads no claim off a contract on lent
-- structs, so each claim is written out here, and `is` holds it to the contract. Assumes nothing.
use mathlib.Core.Path.{◌≡◌, refl, sym, ap, ◌∙◌}
use Rattle.host.specs.Lending.{set_mark, loaded_of, Called, SharesChanged}
use Rattle.host.specs.contracts.call as call
use Rattle.host.specs.contracts.change_shares as change-shares
use Rattle.host.specs.contracts.load as load
use Rattle.host.specs.contracts.set_mark as set-mark
use Rattle.host.proofs.HostLaws as host
use Rattle.contracts.specs.Outcomes.{Decides}
use Rattle.contracts.proofs.Law.{same_answer, same_exit}

-- the records at exit
pub decides_set_mark : Decides set-mark.ended (λ M 𝓤. set-mark.spec)
decides_set_mark =
    record {
      says = λ κs a x e. e.0.now ≡ set_mark a.0.now a.1.0 a.1.1.0;
      is = refl;
      one = λ κs a x y v w. same_exit (λ l. (l, _));
    }

-- the answer
pub decides_load : Decides load.ended (λ M 𝓤. load.spec)
decides_load = record { says = λ κs a x e. x ≡ loaded_of a.0.now; is = refl; one = λ κs a x y v w. same_answer }

three : {A B C D : Type 0} (f : A → B → C → D) {a x : A} {b y : B} {c z : C} → a ≡ x → b ≡ y → c ≡ z → f a b c ≡ f x y z
three f {x = x} {b = b} {y = y} {c = c} p q r = ap (λ t. f t b c) p ∙ ap (λ t. f x t c) q ∙ ap (λ t. f x y t) r

-- what the host is told, and the desk, the records and the output area at exit
pub decides_call : Decides call.ended (λ M 𝓤. call.spec)
decides_call =
    record {
      says =
          λ κs a x e. Called a.0.now a.1.0.now a.1.1.1.0.now a.1.1.1.1.0.now a.1.1.0 x e.0.now e.1.0.now e.1.1.1.1.0.now;
      is = refl;
      one =
          λ κs a x y v w p q.
          let d = host.decides_call _ _ _ _ _ _ _ _ _ p _ _ _ _ q in
          (d.0, three (λ i j k. (i, (j, (_, (_, (k, _)))))) d.1.0 d.1.1.0 d.1.1.1);
    }

-- what the host is told of new shares, and the desk at exit
pub decides_change_shares : Decides change-shares.ended (λ M 𝓤. change-shares.spec)
decides_change_shares =
    record {
      says = λ κs a x e. SharesChanged a.0.now a.1.0 x e.0.now;
      is = refl;
      one = λ κs a x y v w p q. (p.told ∙ sym q.told, ap (λ d. (d, _)) (p.desk ∙ sym q.desk));
    }
