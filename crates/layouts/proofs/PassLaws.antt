-- A profile's rules on its bytes, where they lie: each meaning is its byte, each share its two, and the rows past the posts are zero if
-- the total of all rows is that of the posts'. Assumes nothing.
use Prim.Native.Nat.{ℕ, zero, suc, ◌+◌, ◌-◌, ◌*◌, ◌≤◌, ◌<◌}
use mathlib.Core.Path.{◌≡◌, refl, sym, ap, ◌∙◌, subst}
use mathlib.Core.Bool.{Bool, true, false, cond}
use mathlib.Core.List.{List, [], ◌∷◌}
use native.Mathlib.Numerals.{add-one}
use native.Mathlib.Omega.{arith}
use lib.Dec.{eqb, leb}
use lib.ListN.{length, get_or, take, drop, drop_of_length-le}
use lib.Seq.{drop-cons, drop-drop, get_or-drop, get_or-take, length-take-le}
use borrow.Author.Tests.{eq-eqb, ne_eqb, eqb-true, eqb-false, le-leb, lt-leb, leb-true, leb-false}
use Rattle.codec.specs.Codec.{both}
use Rattle.codec.proofs.Good.{both_true, both_none, both_right}
use Rattle.profile.specs.Counting.{every, sum}
use Rattle.profile.specs.Rules.{reserved, no_share, meaning_of, meaning_ok, meaning_in, air_ok, share_ok, share_in, shares_ok, profile_ok}
use Rattle.profile.specs.declared.Kind.TheVariants as kind
use Rattle.profile.specs.declared.Meaning.{Meaning}
use Rattle.profile.specs.declared.Share.{Share}
use Rattle.profile.proofs.CountLaws.{every_none, every_more, every_not, sum_none, sum_more}
use Rattle.layouts.specs.Bytes.{number_from, rows_from, are_zero}
use Rattle.layouts.specs.Profiles.{meaning_from, share_from, air_from, shares_from, profile_from, spare_zero, is_profile, passes}
use Rattle.layouts.proofs.ByteLaws.{byte_here}

pub both_last : (a : Bool) → both a true ≡ a
unfolding both
both_last true = refl
both_last false = refl

every_same : (n : ℕ) (f g : ℕ → Bool) → ((i : ℕ) → i < n → f i ≡ g i) → every n f ≡ every n g
unfolding every
every_same zero f g h = refl
every_same (suc n) f g h = rw (every_same n f g (λ i k. h i (omega arith)), h n (omega arith))

pub every_next : (n : ℕ) (test : ℕ → Bool) → both (every n test) (test n) ≡ every (n + 1) test
unfolding every
every_next n test = rw (add-one n)

-- thing i of things of k bytes
rows_at : {A : Type 0} (f : List ℕ → A) (k : ℕ) (d : A) (n : ℕ) (l : List ℕ) (i : ℕ) → i < n → get_or (rows_from f k n l) i d ≡ f (drop (k * i) l)
unfolding rows_from
rows_at {A} f k d zero l i h = absurd (omega arith)
rows_at {A} f k d (suc n) l zero h = let z : k * 0 ≡ 0 = omega arith in rw z
rows_at {A} f k d (suc n) l (suc i) h =
    let e : k + k * i ≡ k * suc i = omega arith in
    rows_at f k d n (drop k l) i (omega arith) ∙ rw (drop-drop (k * i) k l, e)

-- ---- meanings

-- a list keeps its rule if its number is no other's and not over 17
listed : (b : ℕ) (t : Bool) → (b ≡ 0 → ⊥) → (b ≡ 16 → ⊥) → (b ≡ 17 → ⊥) → leb b 17 ≡ t → both (leb 1 b) (leb b 15) ≡ t
listed b true z s f h = both_true (leb 1 b) (leb b 15) (le-leb 1 b (omega (arith, z))) (le-leb b 15 (omega (arith, leb-true b 17 h, s, f)))
listed b false z s f h = ap (λ (t : Bool). both (leb 1 b) t) (lt-leb b 15 (omega (arith, leb-false b 17 h))) ∙ both_none (leb 1 b)

picked : (b : ℕ) (z s f : Bool) → eqb b 0 ≡ z → eqb b 16 ≡ s → eqb b 17 ≡ f
    → meaning_ok (cond z reserved (cond s (record { kind = kind.Nobody; count = 0 }) (cond f (record { kind = kind.FirstLast; count = 0 }) (record { kind = kind.Listed; count = b })))) ≡ leb b 17
unfolding meaning_ok
picked b true s f e d g = sym (le-leb b 17 (omega (arith, eqb-true b 0 e)))
picked b false true f e d g = sym (le-leb b 17 (omega (arith, eqb-true b 16 d)))
picked b false false true e d g = sym (le-leb b 17 (omega (arith, eqb-true b 17 g)))
picked b false false false e d g = listed b (leb b 17) (eqb-false b 0 e) (eqb-false b 16 d) (eqb-false b 17 g) refl

-- a meaning keeps its rule if its number is one of the eighteen
meaning_kept : (b : ℕ) → meaning_ok (meaning_of b) ≡ leb b 17
unfolding meaning_of
meaning_kept b = picked b (eqb b 0) (eqb b 16) (eqb b 17) refl refl refl

module _ (l : List ℕ) where
  meanings_kept : every 16 (λ r. meaning_ok (meaning_in (rows_from meaning_from 1 16 (drop 6 l)) r)) ≡ every 16 (λ r. leb (get_or l (6 + r) 0) 17)
  unfolding meaning_in
  meanings_kept =
      every_same 16 (λ r. meaning_ok (meaning_in (rows_from meaning_from 1 16 (drop 6 l)) r)) (λ r. leb (get_or l (6 + r) 0) 17)
      (λ i h. ap (λ (m : Meaning). meaning_ok m) (rows_at meaning_from 1 reserved 16 (drop 6 l) i h)
      ∙ meaning_kept (get_or (drop (1 * i) (drop 6 l)) 0 0)
      ∙ ap (λ (b : ℕ). leb b 17) (byte_here (drop 6 l) (1 * i) ∙ get_or-drop 6 l (1 * i) 0 ∙ same i))
    where
      same : (i : ℕ) → get_or l (6 + 1 * i) 0 ≡ get_or l (6 + i) 0
      same i = let e : 1 * i ≡ i = omega arith in rw e

  air_known : air_ok (air_from l) ≡ true → every 16 (λ r. leb (get_or l (6 + r) 0) 17) ≡ true
  unfolding air_ok air_from
  air_known e = sym meanings_kept ∙ both_right _ _ (both_right _ _ (both_right _ _ (both_right _ _ (both_right _ _ (both_right _ _ e)))))

  -- the part on the air, when SS type and home extension are in range
  pub air_kept : leb (get_or l 0 0) 63 ≡ true → leb (number_from 3 (drop 1 l)) 0xFF_FFFF ≡ true
      → air_ok (air_from l)
      ≡ both (leb (get_or l 4 0) 127) (both (leb (get_or l 5 0) 127) (both (leb (get_or l 39 0) 7) (both (leb (get_or l 40 0) 7) (every 16 (λ r. leb (get_or l (6 + r) 0) 17)))))
  unfolding air_ok air_from both
  air_kept s h = rw (s, h, meanings_kept)

-- ---- the rows past the posts

unfoldable pub total : List ℕ → ℕ
total [] = 0
total (b ∷ l) = b + total l

zero_total : (l : List ℕ) → are_zero l ≡ eqb (total l) 0
unfolding are_zero total both
zero_total [] = sym (eq-eqb 0 0 refl)
zero_total (b ∷ l) = ap (λ (t : Bool). both (eqb b 0) t) (zero_total l) ∙ go (eqb b 0) refl (eqb (total l) 0) refl
  where
    go : (x : Bool) → eqb b 0 ≡ x → (y : Bool) → eqb (total l) 0 ≡ y → both x y ≡ eqb (b + total l) 0
    go true e true d = sym (eq-eqb (b + total l) 0 (omega (arith, eqb-true b 0 e, eqb-true (total l) 0 d)))
    go true e false d = sym (ne_eqb (b + total l) 0 (λ z. eqb-false (total l) 0 d (omega arith)))
    go false e y d = sym (ne_eqb (b + total l) 0 (λ z. eqb-false b 0 e (omega arith)))

module _ (l : List ℕ) where
  -- the share of post p
  abbrev pub share_of : ℕ → Share
  share_of p = share_in (rows_from share_from 2 8 (drop 23 l)) p

  -- what is asked of the rows, of which the first n are the posts'
  abbrev pub rows_kept : ℕ → Bool
  rows_kept n =
      both (are_zero (drop (23 + 2 * n) (take 39 l)))
      (both (every n (λ p. share_ok (share_of p))) (leb (sum n (λ p. (share_of p).reserved)) 32))

  -- the first p rows are good, so much is reserved in them, and the bytes of the others have that total
  abbrev pub Passed : ℕ → ℕ → ℕ → Type 0
  Passed p all rest =
      (every p (λ q. share_ok (share_of q)) ≡ true)
      × ((all ≡ sum p (λ q. (share_of q).reserved)) × (rest ≡ total (drop (23 + 2 * p) (take 39 l))))

  module _ (is : length l ≡ 41) where
    total_more : (i : ℕ) → i < 39 → total (drop i (take 39 l)) ≡ get_or l i 0 + total (drop (i + 1) (take 39 l))
    unfolding total
    total_more i h =
        let w : i < length (take 39 l) = omega (arith, length-take-le 39 l (omega arith)) in
        rw (drop-cons (take 39 l) i 0 w, get_or-take 39 l i 0 h, add-one i)

    sum_total : (n i : ℕ) → i + n ≤ 39 → sum n (λ k. get_or l (i + k) 0) + total (drop (i + n) (take 39 l)) ≡ total (drop i (take 39 l))
    unfolding sum
    sum_total zero i h = let z : i + 0 ≡ i = omega arith in rw z (omega arith)
    sum_total (suc n) i h =
        let e : i + suc n ≡ i + n + 1 = omega arith in
        let s : sum n (λ k. get_or l (i + k) 0) + get_or l (i + n) 0 + total (drop (i + n + 1) (take 39 l)) ≡ total (drop i (take 39 l))
        = omega (arith, sum_total n i (omega arith), total_more (i + n) (omega arith)) in
        rw e s

    rows_total : sum 16 (λ k. get_or l (23 + k) 0) ≡ total (drop 23 (take 39 l))
    unfolding total
    rows_total =
        let z : total (drop (23 + 16) (take 39 l)) ≡ 0 = ap (λ (m : List ℕ). total m) (drop_of_length-le (take 39 l) {i = 23 + 16} (omega (arith, length-take-le 39 l (omega arith)))) in
        omega (arith, sum_total 16 23 (omega arith), z)

    row_total : (p : ℕ) → p < 8
        → total (drop (23 + 2 * p) (take 39 l)) ≡ get_or l (23 + 2 * p) 0 + (get_or l (24 + 2 * p) 0 + total (drop (23 + 2 * (p + 1)) (take 39 l)))
    row_total p h =
        let e : 23 + 2 * p + 1 ≡ 24 + 2 * p = omega arith in
        let d : 24 + 2 * p + 1 ≡ 23 + 2 * (p + 1) = omega arith in
        let a = rw e at (total_more (23 + 2 * p) (omega arith)) in
        let b = rw d at (total_more (24 + 2 * p) (omega arith)) in
        omega (arith, a, b)

    pub passed_none : (rest : ℕ) → rest ≡ sum 16 (λ k. get_or l (23 + k) 0) → Passed 0 0 rest
    passed_none rest e = let z : 23 + 2 * 0 ≡ 23 = omega arith in (every_none _, (sym (sum_none _), rw z (e ∙ rows_total)))

  -- post p, and the two bytes of its row
  module _ (p r c : ℕ) (h : p < 8) (er : r ≡ get_or l (23 + 2 * p) 0) (ec : c ≡ get_or l (24 + 2 * p) 0) where
    share_here : share_of p ≡ record { reserved = r; ceiling = c }
    unfolding share_in share_from
    share_here =
        let e : 23 + 2 * p + 1 ≡ 24 + 2 * p = omega arith in
        rows_at share_from 2 no_share 8 (drop 23 l) p h ∙ rw (drop-drop (2 * p) 23 l, byte_here l (23 + 2 * p), get_or-drop (23 + 2 * p) l 1 0, e, ← er, ← ec)

    tested : (t : Bool) → share_ok (record { reserved = r; ceiling = c }) ≡ t → share_ok (share_of p) ≡ t
    tested t e = ap (λ (s : Share). share_ok s) share_here ∙ e

    pub passed_not : (posts : ℕ) → p < posts → share_ok (record { reserved = r; ceiling = c }) ≡ false → false ≡ rows_kept posts
    unfolding both
    passed_not posts k e =
        let d = every_not posts (λ q. share_ok (share_of q)) p k (tested false e) in
        rw d (sym (both_none (are_zero (drop (23 + 2 * posts) (take 39 l)))))

    module _ (is : length l ≡ 41) (all rest : ℕ) (so : Passed p all rest) where
      -- a row's bytes are in what is left
      pub row_left : r + c ≤ rest
      row_left = omega (arith, row_total is p h, so.1.1, er, ec)

      pub passed_more : share_ok (record { reserved = r; ceiling = c }) ≡ true → Passed (p + 1) (all + r) (rest - (r + c))
      passed_more e =
          let f : ℕ → ℕ = λ q. (share_of q).reserved in
          let d : f p ≡ r = ap (λ (s : Share). s.reserved) share_here in
          (every_more p _ so.0 (tested true e), (omega (arith, so.1.0, d, sum_more p f), omega (arith, row_total is p h, so.1.1, er, ec)))

  module _ (posts p all rest : ℕ) (so : Passed p all rest) (at : p ≡ posts) where
    pub passed_spare : (rest ≡ 0 → ⊥) → false ≡ rows_kept posts
    unfolding both
    passed_spare n =
        let t = zero_total (drop (23 + 2 * p) (take 39 l)) ∙ ne_eqb _ 0 (λ z. n (so.1.1 ∙ z)) in
        subst (λ (k : ℕ). false ≡ rows_kept k) at (rw t)

    pub passed_end : rest ≡ 0 → leb all 32 ≡ rows_kept posts
    unfolding both
    passed_end z =
        let t = zero_total (drop (23 + 2 * p) (take 39 l)) ∙ eq-eqb _ 0 (sym so.1.1 ∙ z) in
        subst (λ (k : ℕ). leb all 32 ≡ rows_kept k) at (rw (t, so.0, ← so.1.0))

  -- ---- the whole

  module _ (posts : ℕ) (are : posts ≡ get_or l 22 0) where
    pub shares_kept : 1 ≤ posts → posts ≤ 8 → rows_kept posts ≡ both (spare_zero (take 39 l)) (shares_ok (shares_from l))
    unfolding spare_zero shares_ok shares_from both
    shares_kept h k = rw (get_or-take 39 l 22 0 (omega arith), ← are, le-leb 1 posts h, le-leb posts 8 k)

    pub none_kept : posts < 1 → false ≡ both (spare_zero (take 39 l)) (shares_ok (shares_from l))
    unfolding shares_ok shares_from both
    none_kept h = rw (← are, lt-leb 1 posts h) (sym (both_none (spare_zero (take 39 l))))

    pub many_kept : 8 < posts → false ≡ both (spare_zero (take 39 l)) (shares_ok (shares_from l))
    unfolding shares_ok shares_from both
    many_kept h = rw (← are, le-leb 1 posts (omega arith), lt-leb posts 8 h) (sym (both_none (spare_zero (take 39 l))))

  pub passes_not : air_ok (air_from l) ≡ false → false ≡ passes l
  unfolding passes profile_ok profile_from both
  passes_not e = rw e (sym (both_none (is_profile l)))

  pub passes_by : length l ≡ 41 → air_ok (air_from l) ≡ true → both (spare_zero (take 39 l)) (shares_ok (shares_from l)) ≡ passes l
  unfolding passes is_profile profile_ok profile_from both
  passes_by is e = rw (eq-eqb (length l) 41 is, air_known l e, e)

  pub passes_other : (length l ≡ 41 → ⊥) → false ≡ passes l
  unfolding passes is_profile both
  passes_other n = rw (ne_eqb (length l) 41 n)
