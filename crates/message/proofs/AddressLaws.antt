-- An address is a good codec, and `nobody` is the address whose parts are zero. Assumes nothing.
use Prim.Native.Nat.{ℕ}
use mathlib.Core.Path.{◌≡◌, refl}
use mathlib.Core.Bool.{Bool, true}
use lib.Dec.{eqb}
use borrow.Author.Tests.{eqb-true}
use Rattle.codec.specs.Codec.{both, number, pure, seq}
use Rattle.codec.proofs.Good.{Good, both_left, both_right}
use Rattle.codec.proofs.Combinators.{good_number, good_pure, good_guard, good_seq, good_iso, good_choose}
use Rattle.message.specs.Elements as element
use Rattle.message.specs.Addresses.{nobody, is_zero, is_nobody, is_kind, is_internal, kind_c, extension_c, address_c}
use Rattle.message.specs.declared.Address.{Address}

pub zero_is : (n : ℕ) → is_zero n ≡ true → n ≡ 0
zero_is n e = eqb-true n 0 e

pub good_zero : Good (pure 0 is_zero)
good_zero = good_pure 0 is_zero refl zero_is

pub good_kind : (external : Bool) → Good (kind_c external)
unfolding kind_c
good_kind external =
    good_guard 10 is_kind _ refl
    (good_choose external (good_guard 27 is_internal (number element.kind 2) refl (good_number element.kind 2)) (good_number element.kind 2))

good_extension : (k : ℕ) → Good (extension_c k)
unfolding extension_c
good_extension k = good_choose (eqb k 1) good_zero (good_number element.extension 24)

pub good_address : (external : Bool) → Good (address_c external)
unfolding address_c
good_address external =
    good_iso _ _ _ (λ a v. refl) (λ b _. refl)
    (good_seq (kind_c external) (λ k. seq (number element.ssi 24) (λ s. extension_c k)) (good_kind external)
    (λ k _. good_seq (number element.ssi 24) (λ s. extension_c k) (good_number element.ssi 24) (λ s _. good_extension k)))

address_eq : (a : Address) → a.kind ≡ 0 → a.ssi ≡ 0 → a.extension ≡ 0 → ◌≡◌ {A = Address} (record { kind = a.kind; ssi = a.ssi; extension = a.extension }) nobody
address_eq a e d c = rw (e, d, c)

pub is_nobody_lem : (a : Address) → is_nobody a ≡ true → a ≡ nobody
unfolding is_nobody
is_nobody_lem a e =
    let r = both_right (is_zero a.kind) _ e in
    address_eq a (zero_is _ (both_left _ _ e)) (zero_is _ (both_left _ _ r)) (zero_is _ (both_right (is_zero a.ssi) _ r))

pub nobody_is : is_nobody nobody ≡ true
unfolding is_nobody both
nobody_is = refl
