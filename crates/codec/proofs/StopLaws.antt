-- Which numbers a reading can be refused with: those that its parts give, and no other. Assumes nothing.
use Prim.Native.Nat.{ℕ, zero, suc, ◌+◌}
use mathlib.Core.Path.{◌≡◌}
use mathlib.Core.Bool.{Bool, true, false, cond}
use lib.Dec.{leb}
use Rattle.bits.specs.Fields.{field_at}
use Rattle.codec.specs.Stops.{short, refusal}
use Rattle.codec.specs.Codec.{Read, got, no, bind, Codec, number, pure, guard, seq, map, choose, vec, vec_read}
use Rattle.codec.specs.Options.{flag, given, absent, is_absent, there_c, optional, options}

-- a refusal has a number that passes the test
abbrev pub StopsBy : {A : Type 0} → (ℕ → Bool) → Read A → Type 0
StopsBy test (got a p) = Unit
StopsBy test (no s) = test s.number ≡ true

-- so has every refusal of the codec
pub record Only {A : Type 0} (test : ℕ → Bool) (C : Codec A) : Type 0 where
  pub stops : (f : ℕ → ℕ) (n at : ℕ) → StopsBy test (C.read f n at)

module _ (test : ℕ → Bool) where
  pub bind_only : {A B : Type 0} (r : Read A) (k : A → ℕ → Read B) → StopsBy test r → ((a : A) (p : ℕ) → StopsBy test (k a p)) → StopsBy test (bind r k)
  bind_only (got a p) k e h = h a p
  bind_only (no s) k e h = e

  pub test_only : {A : Type 0} (b : Bool) (c : ℕ) (a : A) (p : ℕ) → test c ≡ true → StopsBy {A = A} test (cond b (got a p) (no (refusal c)))
  unfolding refusal
  test_only true c a p e = tt
  test_only false c a p e = e

  module _ (four : test 4 ≡ true) where
    pub only_number : (e w : ℕ) → Only test (number e w)
    unfolding number short
    only_number e w = record { stops = λ f n at. go f n at (leb (at + w) n) }
      where
        go : (f : ℕ → ℕ) (n at : ℕ) (b : Bool) → StopsBy {A = ℕ} test (cond b (got (field_at f at w) (at + w)) (no (short e at)))
        go f n at true = tt
        go f n at false = four

    pub only_flag : (e : ℕ) → Only test (flag e)
    unfolding flag
    only_flag e = record { stops = λ f n at. bind_only ((number e 1).read f n at) _ ((only_number e 1).stops f n at) (λ a p. tt) }

  pub only_pure : {A : Type 0} (a : A) (same : A → Bool) → Only test (pure a same)
  only_pure a same = record { stops = λ f n at. tt }

  pub only_guard : {A : Type 0} (c : ℕ) (passes : A → Bool) (C : Codec A) → test c ≡ true → Only test C → Only test (guard c passes C)
  only_guard c passes C e o = record { stops = λ f n at. bind_only (C.read f n at) _ (o.stops f n at) (λ a p. test_only (passes a) c a p e) }

  pub only_seq : {A B : Type 0} (C : Codec A) (D : A → Codec B) → Only test C → ((a : A) → Only test (D a)) → Only test (seq C D)
  only_seq C D o h =
      record { stops = λ f n at. bind_only (C.read f n at) _ (o.stops f n at) (λ a p. bind_only ((D a).read f n p) _ ((h a).stops f n p) (λ b q. tt)) }

  pub only_map : {A B : Type 0} (to : A → B) (from : B → A) (just : B → Bool) (C : Codec A) → Only test C → Only test (map to from just C)
  only_map to from just C o = record { stops = λ f n at. bind_only (C.read f n at) _ (o.stops f n at) (λ a p. tt) }

  pub only_choose : {A : Type 0} (b : Bool) (C D : Codec A) → Only test C → Only test D → Only test (choose b C D)
  only_choose true C D o h = o
  only_choose false C D o h = h

  vec_stops : {A : Type 0} (k : ℕ) (C : Codec A) → Only test C → (f : ℕ → ℕ) (n at : ℕ) → StopsBy test (vec_read C k f n at)
  unfolding vec_read
  vec_stops zero C o f n at = tt
  vec_stops (suc k) C o f n at = bind_only (C.read f n at) _ (o.stops f n at) (λ a p. bind_only (vec_read C k f n p) _ (vec_stops k C o f n p) (λ xs q. tt))

  pub only_vec : {A : Type 0} (k : ℕ) (C : Codec A) → Only test C → Only test (vec k C)
  only_vec k C o = record { stops = vec_stops k C o }

  -- ---- optional elements

  module _ (four : test 4 ≡ true) where
    pub only_given : {A : Type 0} (p : ℕ) (none : A) (is_none : A → Bool) (C : Codec A) → Only test C → Only test (given p none is_none C)
    only_given p none is_none C o =
        only_seq (flag p) (λ b. choose b C (pure none is_none)) (only_flag four p) (λ b. only_choose b C (pure none is_none) o (only_pure none is_none))

    only_there : {A : Type 0} (C : Codec A) → Only test C → Only test (there_c C)
    only_there C o = record { stops = λ f n at. bind_only (C.read f n at) _ (o.stops f n at) (λ a p. tt) }

    pub only_optional : {A : Type 0} (p : ℕ) (C : Codec A) → Only test C → Only test (optional p C)
    only_optional p C o =
        only_map _ _ _ _
        (only_seq (flag p) (λ b. choose b (there_c C) (pure absent is_absent)) (only_flag four p)
        (λ b. only_choose b (there_c C) (pure absent is_absent) (only_there C o) (only_pure absent is_absent)))

    pub only_options : {A : Type 0} (o : ℕ) (none : A) (is_none some : A → Bool) (D : Codec A) → test 12 ≡ true → Only test D → Only test (options o none is_none some D)
    only_options o none is_none some D twelve only =
        only_map _ _ _ _
        (only_seq (flag o) (λ b. choose b (guard 12 some D) (pure none is_none)) (only_flag four o)
        (λ b. only_choose b (guard 12 some D) (pure none is_none) (only_guard 12 some D twelve only) (only_pure none is_none)))
