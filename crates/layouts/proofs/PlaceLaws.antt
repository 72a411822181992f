-- Groups and areas laid: the range, what its meaning has, and zeros in the places beyond. Assumes nothing.
use Prim.Native.Nat.{ℕ, zero, suc, ◌+◌, ◌-◌, ◌*◌, ◌≤◌, ◌<◌, min}
use mathlib.Core.Path.{◌≡◌, refl, sym, ap, ◌∙◌}
use mathlib.Core.Bool.{Bool, true, false}
use mathlib.Core.List.{List, [], ◌∷◌, ◌++◌, append_assoc}
use native.Mathlib.Nat.{sub-zero, suc-sub-suc}
use native.Mathlib.Numerals.{add-one}
use native.Mathlib.Omega.{arith}
use lib.Dec.{eqb, leb}
use lib.ListN.{length, get_or, take, drop, set, replicate, length-append, length-replicate, length-set}
use lib.Seq.{sets, sets-eq, drop-drop, get_or-drop, drop_at, length-take-le}
use borrow.Author.Tests.{ne_eqb, le-leb, eqb-true, eqb-false}
use Rattle.bits.specs.Fields.{field_at}
use Rattle.bits.proofs.FieldLaws.{field_lt}
use Rattle.codec.specs.Codec.{got, vec_read}
use Rattle.codec.proofs.Good.{Binary, both_true}
use Rattle.codec.proofs.Combinators.{number_got, good_vec}
use Rattle.profile.specs.Rules.{reserved, meaning_of, meaning_in}
use Rattle.profile.specs.declared.Kind.TheVariants as kind
use Rattle.profile.specs.declared.Meaning.{Meaning}
use Rattle.profile.specs.declared.Air.{Air}
use Rattle.message.specs.Elements as element
use Rattle.message.specs.Addresses.{nobody, address_c}
use Rattle.message.specs.Groups.{addresses_in, allowed_in, nobodies, places_c, range_ok, ends_ok, addresses_c, range_c, group_c, span_in, span_of}
use Rattle.message.specs.Areas.{area_c, area_places_c, rises, area_list_c, areas_c}
use Rattle.message.specs.declared.Address.{Address}
use Rattle.message.specs.declared.Group.{Group}
use Rattle.message.specs.declared.Value.{Value}
use Rattle.layouts.specs.Bytes.{number_from, number_bytes, rows_from, rows_bytes}
use Rattle.layouts.specs.Profiles.{meaning_from, air_from}
use Rattle.layouts.specs.Values.{address_bytes, address_from, group_bytes, group_from, byte_bytes, areas_bytes, value_from}
use Rattle.layouts.proofs.ByteLaws.{byte_here, sets_append}
use Rattle.layouts.proofs.PutLaws.{length_address}
use Rattle.message.proofs.AddressLaws.{good_address}
use Rattle.layouts.proofs.RowLaws.{All, none, more}
use Rattle.layouts.proofs.FitLaws.{AddressFits, ok_run}
use Rattle.layouts.proofs.LayoutLaws.{address_back, fits_back}
use Rattle.layouts.proofs.PartLaws.{ok_of, Laid, Grouped, AreaList, Addresses}

abbrev zeros : ℕ → List ℕ
zeros n = replicate n 0

-- ---- what a range means

-- thing i of things of k bytes
row_at : {A : Type 0} (f : List ℕ → A) (k : ℕ) (d : A) (n : ℕ) (l : List ℕ) (i : ℕ) → i < n → get_or (rows_from f k n l) i d ≡ f (drop (k * i) l)
unfolding rows_from
row_at {A} f k d zero l i h = absurd (omega arith)
row_at {A} f k d (suc n) l zero h = let z : k * 0 ≡ 0 = omega arith in rw z
row_at {A} f k d (suc n) l (suc i) h =
    let e : k + k * i ≡ k * suc i = omega arith in
    row_at f k d n (drop k l) i (omega arith) ∙ rw (drop-drop (k * i) k l, e)

pub means : (profile : List ℕ) (r : ℕ) → r < 16 → meaning_in (air_from profile).meanings r ≡ meaning_of (get_or profile (6 + r) 0)
unfolding meaning_in air_from
means profile r h =
    let m : 1 * r ≡ r = omega arith in
    row_at meaning_from 1 reserved 16 (drop 6 profile) r h ∙ rw (m, drop-drop r 6 profile, byte_here profile (6 + r))

abbrev list_of : ℕ → Meaning
list_of k = record { kind = kind.Listed; count = k }

abbrev none_at_all : Meaning
none_at_all = record { kind = kind.Nobody; count = 0 }

abbrev first_and_last : Meaning
first_and_last = record { kind = kind.FirstLast; count = 0 }

list_meant : (m : ℕ) → (m ≡ 0 → ⊥) → m < 16 → meaning_of m ≡ list_of m
unfolding meaning_of
list_meant m z h = rw (ne_eqb m 0 z, ne_eqb m 16 (λ e. omega (arith, e)), ne_eqb m 17 (λ e. omega (arith, e)))

none_listed : (m : ℕ) → m ≡ 0 → meaning_of m ≡ reserved
unfolding meaning_of
none_listed m e = rw e

none_meant : (m : ℕ) → m ≡ 16 → meaning_of m ≡ none_at_all
unfolding meaning_of
none_meant m e = rw e

ends_meant : (m : ℕ) → m ≡ 17 → meaning_of m ≡ first_and_last
unfolding meaning_of
ends_meant m e = rw e

-- ---- fifteen places

drop_same : {A : Type 0} (a : A) (n k : ℕ) → drop k (replicate n a) ≡ replicate (n - k) a
drop_same {A} a n zero = rw sub-zero
drop_same {A} a zero (suc k) = let z : 0 - suc k ≡ 0 = omega arith in rw z
drop_same {A} a (suc n) (suc k) = drop_same a n k ∙ ap (λ (m : ℕ). replicate m a) (sym (suc-sub-suc n k))

module _ {A : Type 0} (g : A → List ℕ) (none : A) (k : ℕ) (size : (a : A) → length (g a) ≡ k) (empty : g none ≡ zeros k) where
  rows_join : (xs ys : List A) → rows_bytes g (xs ++ ys) ≡ rows_bytes g xs ++ rows_bytes g ys
  unfolding rows_bytes
  rows_join [] ys = refl
  rows_join (x ∷ xs) ys = rw (rows_join xs ys, append_assoc)

  rows_none : (n : ℕ) → rows_bytes g (replicate n none) ≡ zeros (k * n)
  unfolding rows_bytes
  rows_none zero = let z : k * 0 ≡ 0 = omega arith in rw z
  rows_none (suc n) =
      let e : k * suc n ≡ k + k * n = omega arith in
      rw (empty, rows_none n, e) (replicate_append k (k * n))
    where
      replicate_append : (i j : ℕ) → zeros i ++ zeros j ≡ zeros (i + j)
      replicate_append zero j = let z : 0 + j ≡ j = omega arith in rw z
      replicate_append (suc i) j = let z : suc i + j ≡ suc (i + j) = omega arith in ap (λ (m : List ℕ). 0 ∷ m) (replicate_append i j) ∙ rw z

  rows_row : (xs : List A) → length (rows_bytes g xs) ≡ k * length xs
  unfolding rows_bytes
  rows_row [] = omega arith
  rows_row (x ∷ xs) = let e : k * suc (length xs) ≡ k + k * length xs = omega arith in rw (length-append (g x) (rows_bytes g xs), size x, rows_row xs, e)

  -- some in the first places, and zeros in the places beyond
  placed : (a b c : List ℕ) (p : ℕ) (xs : List A) → length xs ≤ 15 → b ≡ sets a p (rows_bytes g xs) → c ≡ sets b (p + k * length xs) (zeros (k * (15 - length xs)))
      → c ≡ sets a p (rows_bytes g (sets (replicate 15 none) 0 xs))
  placed a b c p xs h e w =
      let n = length xs in
      let z : 0 + n ≡ n = omega arith in
      let at : p + length (rows_bytes g xs) ≡ p + k * n = ap (λ (i : ℕ). p + i) (rows_row xs) in
      let all : sets (replicate 15 none) 0 xs ≡ xs ++ replicate (15 - n) none =
      sets-eq xs (replicate 15 none) 0 (omega (arith, length-replicate {A = A} 15 none, h)) ∙ ap (λ (i : ℕ). xs ++ drop i (replicate 15 none)) z ∙ ap (λ (r : List A). xs ++ r) (drop_same none 15 n) in
      let bytes : rows_bytes g (sets (replicate 15 none) 0 xs) ≡ rows_bytes g xs ++ zeros (k * (15 - n)) =
      ap (λ (l : List A). rows_bytes g l) all ∙ rows_join xs (replicate (15 - n) none) ∙ ap (λ (r : List ℕ). rows_bytes g xs ++ r) (rows_none (15 - n)) in
      w ∙ ap (λ (l : List ℕ). sets l (p + k * n) (zeros (k * (15 - n)))) e
      ∙ sym (ap (λ (bs : List ℕ). sets a p bs) bytes ∙ sets_append a p (rows_bytes g xs) (zeros (k * (15 - n))) ∙ ap (λ (i : ℕ). sets (sets a p (rows_bytes g xs)) i (zeros (k * (15 - n)))) at)

nobody_bytes : address_bytes nobody ≡ zeros 7
unfolding address_bytes number_bytes
nobody_bytes = refl

-- so many addresses in fifteen places from byte p on
pub record Places (f : ℕ → ℕ) (k at : ℕ) (a b : List ℕ) (p r : ℕ) : Type 0 where
  pub list : List Address
  pub area : b ≡ sets a p (rows_bytes address_bytes list)
  pub read : (external : Bool) (n : ℕ) → r ≤ n → (places_c external k).read f n at ≡ got list r
  pub after : at ≤ r
  -- those that are there
  pub some : List Address
  pub long : length some ≡ k
  pub first : list ≡ sets (replicate 15 nobody) 0 some
  pub each : All AddressFits some

module _ (f : ℕ → ℕ) (binary : Binary f) (k at : ℕ) (few : k ≤ 15) (a b c : List ℕ) (p r : ℕ) where
  pub places_of : Addresses f k at a b p r → c ≡ sets b (p + 7 * k) (zeros (105 - 7 * k)) → Places f k at a c p r
  unfolding places_c nobodies
  places_of d w =
      let e : p + 7 * k ≡ p + 7 * length d.list = omega (arith, d.long) in
      let n : 105 - 7 * k ≡ 7 * (15 - length d.list) = omega (arith, d.long, few) in
      record {
        list = sets (replicate 15 nobody) 0 d.list;
        area =
            placed address_bytes nobody 7 length_address nobody_bytes a b c p d.list (omega (arith, d.long, few)) d.area
            (w ∙ ap (λ (i : ℕ). sets b i (zeros (105 - 7 * k))) e ∙ ap (λ (i : ℕ). sets b (p + 7 * length d.list) (zeros i)) n);
        read = λ external n h. rw (d.read external n h);
        after = d.after;
        some = d.list;
        long = d.long;
        first = refl;
        each = (ok_run false k d.list (ok_of (good_vec (address_c false) (good_address false) k) f binary r at d.list r (d.read false r (omega arith)))).each;
      }

  -- none of them: the position stays
  pub places_none : k ≡ 0 → r ≡ at → c ≡ sets a p (zeros 105) → Places f k at a c p r
  unfolding places_c vec_read
  places_none z h w =
      record {
        list = replicate 15 nobody;
        area = w ∙ ap (λ (bs : List ℕ). sets a p bs) (sym (rows_none address_bytes nobody 7 length_address nobody_bytes 15));
        read = λ external n i. rw (z, h);
        after = omega (arith, h);
        some = [];
        long = sym z;
        first = refl;
        each = none;
      }

-- ---- the ends of a range, where they lie

module _ (l bs : List ℕ) (p : ℕ) (room : p + length bs ≤ length l) where
  drop_sets : drop p (sets l p bs) ≡ bs ++ drop (p + length bs) l
  drop_sets =
      ap (λ (x : List ℕ). drop p x) (sets-eq bs l p room ∙ append_assoc (take p l) bs (drop (p + length bs) l))
      ∙ drop_at (take p l) (bs ++ drop (p + length bs) l) p (length-take-le p l (omega arith))

module _ (a b : List ℕ) (p : ℕ) (x y : Address) (rest : List Address) (fx : AddressFits x) (fy : AddressFits y)
    (e : b ≡ sets a p (rows_bytes address_bytes (x ∷ y ∷ rest))) (room : p + length (rows_bytes address_bytes (x ∷ y ∷ rest)) ≤ length a) where
  behind_first : List ℕ
  behind_first = rows_bytes address_bytes rest ++ drop (p + length (rows_bytes address_bytes (x ∷ y ∷ rest))) a

  both_there : drop p b ≡ address_bytes x ++ (address_bytes y ++ behind_first)
  unfolding rows_bytes behind_first
  both_there =
      ap (λ (l : List ℕ). drop p l) e ∙ drop_sets a (rows_bytes address_bytes (x ∷ y ∷ rest)) p room
      ∙ append_assoc (address_bytes x) (address_bytes y ++ rows_bytes address_bytes rest) _
      ∙ ap (λ (l : List ℕ). address_bytes x ++ l) (append_assoc (address_bytes y) (rows_bytes address_bytes rest) _)

  first_there : address_from (drop p b) ≡ x
  first_there = ap address_from both_there ∙ address_back x (address_bytes y ++ behind_first) fx

  second_there : address_from (drop (p + 7) b) ≡ y
  second_there =
      ap address_from (sym (drop-drop 7 p b) ∙ ap (λ (l : List ℕ). drop 7 l) both_there ∙ drop_at (address_bytes x) (address_bytes y ++ behind_first) 7 (length_address x))
      ∙ address_back y behind_first fy

-- two addresses that were laid
two_laid : (f : ℕ → ℕ) (at : ℕ) (a b : List ℕ) (p r : ℕ) (d : Places f 2 at a b p r) → p + 105 ≤ length a
    → range_ok (address_from (drop p b)) (address_from (drop (p + 7) b)) ≡ range_ok (get_or d.list 0 nobody) (get_or d.list 1 nobody)
two_laid f at a b p r d room = go d.some d.long d.each d.first
  where
    go : (l : List Address) → length l ≡ 2 → All AddressFits l → d.list ≡ sets (replicate 15 nobody) 0 l
        → range_ok (address_from (drop p b)) (address_from (drop (p + 7) b)) ≡ range_ok (get_or d.list 0 nobody) (get_or d.list 1 nobody)
    go [] e q s = absurd (omega (arith, e))
    go (x ∷ []) e q s = absurd (omega (arith, e))
    go (x ∷ y ∷ z ∷ l) e q s = absurd (omega (arith, e))
    go (x ∷ y ∷ []) e (more fx (more fy none)) s =
        let area : b ≡ sets a p (rows_bytes address_bytes (x ∷ y ∷ replicate 13 nobody)) = d.area ∙ ap (λ (l : List Address). sets a p (rows_bytes address_bytes l)) s in
        let long : length (rows_bytes address_bytes (x ∷ y ∷ replicate 13 nobody)) ≡ 105 = rows_row address_bytes nobody 7 length_address nobody_bytes (x ∷ y ∷ replicate 13 nobody) in
        let fit : p + length (rows_bytes address_bytes (x ∷ y ∷ replicate 13 nobody)) ≤ length a = omega (arith, long, room) in
        rw (first_there a b p x y (replicate 13 nobody) fx fy area fit, second_there a b p x y (replicate 13 nobody) fx fy area fit, s)

-- ---- groups

module _ (profile : List ℕ) (f : ℕ → ℕ) (binary : Binary f) (at : ℕ) (a a₁ b : List ℕ) (o r range m : ℕ) (is : range ≡ field_at f at 4) (ranged : a₁ ≡ set a o range)
    (meant : m ≡ get_or profile (6 + range) 0) where
  abbrev air : Air
  air = air_from profile

  small : field_at f at 4 < 16
  small = field_lt f binary at 4

  meaning : meaning_in air.meanings (field_at f at 4) ≡ meaning_of m
  meaning = means profile (field_at f at 4) small ∙ ap meaning_of (sym (meant ∙ ap (λ (x : ℕ). get_or profile (6 + x) 0) is))

  grouped : (may : Bool) (list : List Address) → allowed_in may (meaning_of m) ≡ true → b ≡ sets a₁ (o + 1) (rows_bytes address_bytes list) → at + 4 ≤ r
      → ((external : Bool) (n : ℕ) → r ≤ n → (addresses_c external (meaning_of m)).read f n (at + 4) ≡ got list r) → Grouped air f binary a b at r may o
  unfolding group_c range_c group_bytes
  grouped may list ok area fore read =
      record {
        group = record { range = field_at f at 4; addresses = list };
        area =
            area ∙ ap (λ (l : List ℕ). sets l (o + 1) (rows_bytes address_bytes list)) (ranged ∙ ap (λ (x : ℕ). set a o x) is)
            ∙ ap (λ (i : ℕ). sets (set a o (field_at f at 4)) i (rows_bytes address_bytes list)) (add-one o);
        read = λ external n h. rw (number_got element.range f n at 4 (omega (arith, fore, h)), meaning, ok, meaning, read external n h);
      }

  pub list_grouped : (may : Bool) → (m ≡ 0 → ⊥) → m < 16 → Places f m (at + 4) a₁ b (o + 1) r → Grouped air f binary a b at r may o
  unfolding addresses_c addresses_in ends_ok allowed_in
  list_grouped may z h d =
      grouped may d.list
      (rw (list_meant m z h) (both_true (leb 1 m) (leb m 15) (le-leb 1 m (one_or_more z)) (le-leb m 15 (omega arith)))) d.area d.after
      (λ external n i. rw (list_meant m z h, d.read external n i))
    where
      one_or_more : (m ≡ 0 → ⊥) → 1 ≤ m
      one_or_more z = omega (arith, z)

  pub none_grouped : (may : Bool) → may ≡ true → m ≡ 16 → Places f 0 (at + 4) a₁ b (o + 1) r → Grouped air f binary a b at r may o
  unfolding addresses_c addresses_in ends_ok allowed_in
  none_grouped may yes-may e d = grouped may d.list (rw (none_meant m e) yes-may) d.area d.after (λ external n i. rw (none_meant m e, d.read external n i))

  pub ends_grouped : (may : Bool) → m ≡ 17 → (d : Places f 2 (at + 4) a₁ b (o + 1) r) → o + 106 ≤ length a
      → range_ok (address_from (drop (o + 1) b)) (address_from (drop (o + 1 + 7) b)) ≡ true → Grouped air f binary a b at r may o
  unfolding addresses_c addresses_in ends_ok allowed_in
  ends_grouped may e d room ok =
      let fit : o + 1 + 105 ≤ length a₁ = omega (arith, ap (λ (l : List ℕ). length l) ranged ∙ length-set a o range, room) in
      let ends = sym (two_laid f (at + 4) a₁ b (o + 1) r d fit) ∙ ok in
      grouped may d.list (rw (ends_meant m e)) d.area d.after (λ external n i. rw (ends_meant m e, d.read external n i, ends))

-- ---- areas

-- k areas from position at on
unfoldable pub fours : (ℕ → ℕ) → ℕ → ℕ → List ℕ
fours f at zero = []
fours f at (suc k) = field_at f at 4 ∷ fours f (at + 4) k

length_fours : (f : ℕ → ℕ) (at k : ℕ) → length (fours f at k) ≡ k
unfolding fours
length_fours f at zero = refl
length_fours f at (suc k) = ap suc (length_fours f (at + 4) k)

fours_read : (f : ℕ → ℕ) (at k n : ℕ) → at + 4 * k ≤ n → vec_read area_c k f n at ≡ got (fours f at k) (at + 4 * k)
unfolding fours vec_read
fours_read f at zero n h = let z : at + 4 * 0 ≡ at = omega arith in rw z
fours_read f at (suc k) n h =
    let e : at + 4 + 4 * k ≡ at + 4 * suc k = omega arith in
    rw (number_got element.area f n at 4 (omega arith), fours_read f (at + 4) k n (omega arith), e)

-- the loop: area i goes to its byte, and the others after it
pub fours_start : (f : ℕ → ℕ) (at k : ℕ) (a : List ℕ) → sets a 456 (fours f at k) ≡ sets a (456 + 0) (fours f (at + 4 * 0) (k - 0))
fours_start f at k a = let z : at + 4 * 0 ≡ at = omega arith in rw (z, sub-zero)

pub fours_turn : (f : ℕ → ℕ) (at k i x : ℕ) (a m new : List ℕ) → i < k → sets a 456 (fours f at k) ≡ sets m (456 + i) (fours f (at + 4 * i) (k - i)) → x ≡ field_at f (at + 4 * i) 4
    → new ≡ set m (456 + i) x → sets a 456 (fours f at k) ≡ sets new (456 + (i + 1)) (fours f (at + 4 * (i + 1)) (k - (i + 1)))
unfolding fours
fours_turn f at k i x a m new h e is w =
    let n : k - i ≡ suc (k - (i + 1)) = omega arith in
    let p : at + 4 * i + 4 ≡ at + 4 * (i + 1) = omega arith in
    let q : suc (456 + i) ≡ 456 + (i + 1) = omega arith in
    let others = k - (i + 1) in
    e ∙ ap (λ (j : ℕ). sets m (456 + i) (fours f (at + 4 * i) j)) n
    ∙ ap (λ (y : ℕ). sets (set m (456 + i) y) (suc (456 + i)) (fours f (at + 4 * i + 4) others)) (sym is)
    ∙ ap (λ (l : List ℕ). sets l (suc (456 + i)) (fours f (at + 4 * i + 4) others)) (sym w)
    ∙ ap (λ (j : ℕ). sets new j (fours f (at + 4 * i + 4) others)) q
    ∙ ap (λ (j : ℕ). sets new (456 + (i + 1)) (fours f j others)) p

pub fours_end : (f : ℕ → ℕ) (at k i : ℕ) (a m : List ℕ) → k ≤ i → sets a 456 (fours f at k) ≡ sets m (456 + i) (fours f (at + 4 * i) (k - i)) → m ≡ sets a 456 (fours f at k)
unfolding fours
fours_end f at k i a m h e = let z : k - i ≡ 0 = omega arith in sym (e ∙ rw z)

pub record AreaPlaces (f : ℕ → ℕ) (k at : ℕ) (a b : List ℕ) (r : ℕ) : Type 0 where
  pub area : b ≡ sets a 456 (rows_bytes byte_bytes (sets (replicate 15 0) 0 (fours f at k)))
  pub next : r ≡ at + 4 * k

rows_bytes_lem : (l : List ℕ) → rows_bytes byte_bytes l ≡ l
unfolding rows_bytes
rows_bytes_lem [] = refl
rows_bytes_lem (x ∷ l) = ap (λ (m : List ℕ). x ∷ m) (rows_bytes_lem l)

pub area_places : (f : ℕ → ℕ) (k at : ℕ) → k ≤ 15 → (a m c : List ℕ) (r : ℕ) → m ≡ sets a 456 (fours f at k) → c ≡ sets m (456 + k) (zeros (15 - k)) → r ≡ at + 4 * k
    → AreaPlaces f k at a c r
area_places f k at few a m c r e w h =
    let l : length (fours f at k) ≡ k = length_fours f at k in
    let i : 456 + k ≡ 456 + 1 * length (fours f at k) = omega (arith, l) in
    let n : 15 - k ≡ 1 * (15 - length (fours f at k)) = omega (arith, l) in
    record {
      area =
          placed byte_bytes 0 1 (λ b. refl) refl a m c 456 (fours f at k) (omega (arith, l, few)) (e ∙ ap (λ (x : List ℕ). sets a 456 x) (sym (rows_bytes_lem (fours f at k))))
          (w ∙ ap (λ (j : ℕ). sets m j (zeros (15 - k))) i ∙ ap (λ (j : ℕ). sets m (456 + 1 * length (fours f at k)) (zeros j)) n);
      next = h;
    }

module _ (profile : List ℕ) (f : ℕ → ℕ) (binary : Binary f) (at : ℕ) (a a₁ b : List ℕ) (r range m : ℕ) (is : range ≡ field_at f at 4) (ranged : a₁ ≡ set a 455 range)
    (meant : m ≡ get_or profile (6 + range) 0) (v : Value) (l : Laid a v) where
  abbrev areas_air : Air
  areas_air = air_from profile

  area_meaning : meaning_in areas_air.meanings (field_at f at 4) ≡ meaning_of m
  area_meaning = means profile (field_at f at 4) (field_lt f binary at 4) ∙ ap meaning_of (sym (meant ∙ ap (λ (x : ℕ). get_or profile (6 + x) 0) is))

  area_list : (k : ℕ) → allowed_in true (meaning_of m) ≡ true → addresses_in (meaning_of m) ≡ k → AreaPlaces f k (at + 4) a₁ b r
      → rises (meaning_of m) (sets (replicate 15 0) 0 (fours f (at + 4) k)) ≡ true → AreaList areas_air f binary a b at r v l
  unfolding areas_c range_c area_list_c area_places_c areas_bytes
  area_list k ok many d up =
      let list = sets (replicate 15 0) 0 (fours f (at + 4) k) in
      record {
        areas = record { range = field_at f at 4; areas = list };
        area = d.area ∙ ap (λ (y : List ℕ). sets y 456 (rows_bytes byte_bytes list)) (ranged ∙ ap (λ (x : ℕ). set a 455 x) is);
        read = λ n h.
            rw (
              number_got element.range f n at 4 (omega (arith, d.next, h)),
              area_meaning,
              ok,
              area_meaning,
              many,
              fours_read f (at + 4) k n (omega (arith, d.next, h)),
              up,
              ← d.next,
            );
      }

  pub list_areas : (m ≡ 0 → ⊥) → m < 16 → AreaPlaces f m (at + 4) a₁ b r → AreaList areas_air f binary a b at r v l
  unfolding addresses_in rises allowed_in
  list_areas z h d =
      area_list m (rw (list_meant m z h) (both_true (leb 1 m) (leb m 15) (le-leb 1 m (omega (arith, z))) (le-leb m 15 (omega arith)))) (rw (list_meant m z h)) d (rw (list_meant m z h))

  pub none_areas : m ≡ 16 → AreaPlaces f 0 (at + 4) a₁ b r → AreaList areas_air f binary a b at r v l
  unfolding addresses_in rises allowed_in
  none_areas e d = area_list 0 (rw (none_meant m e)) (rw (none_meant m e)) d (rw (none_meant m e))

  pub ends_areas : m ≡ 17 → AreaPlaces f 2 (at + 4) a₁ b r → length a ≡ 471 → get_or b 456 0 ≤ get_or b 457 0 → AreaList areas_air f binary a b at r v l
  unfolding addresses_in rises allowed_in fours
  ends_areas e d room up =
      let list = sets (replicate 15 0) 0 (fours f (at + 4) 2) in
      let fit : length a₁ ≡ 471 = ap (λ (y : List ℕ). length y) ranged ∙ length-set a 455 range ∙ room in
      let bytes : drop 456 b ≡ list ++ drop (456 + length list) a₁ =
      ap (λ (y : List ℕ). drop 456 y) (d.area ∙ ap (λ (y : List ℕ). sets a₁ 456 y) (rows_bytes_lem list)) ∙ drop_sets a₁ list 456 (omega arith) in
      let first : get_or b 456 0 ≡ field_at f (at + 4) 4 = sym (byte_here b 456) ∙ ap (λ (y : List ℕ). get_or y 0 0) bytes in
      let second : get_or b 457 0 ≡ field_at f (at + 4 + 4) 4 = sym (get_or-drop 456 b 1 0) ∙ ap (λ (y : List ℕ). get_or y 1 0) bytes in
      area_list 2 (rw (ends_meant m e)) (rw (ends_meant m e)) d (rw (ends_meant m e) (le-leb (field_at f (at + 4) 4) (field_at f (at + 4 + 4) 4) (omega (arith, first, second, up))))

-- ---- how many identities the users are, from their bytes

module _ (profile a : List ℕ) (v : Value) (l : Laid a v) where
  users_there : group_from (drop 1 a) ≡ v.users
  unfolding value_from
  users_there = ap (λ (x : List ℕ). group_from (drop 1 x)) l.bytes ∙ ap (λ (w : Value). w.users) (fits_back v l.fits)

  range_there : v.users.range ≡ get_or a 1 0
  unfolding group_from
  range_there = sym (ap (λ (g : Group). g.range) users_there) ∙ byte_here a 1

  ssi_there : (i : ℕ) → i < 15 → (get_or v.users.addresses i nobody).ssi ≡ number_from 3 (drop (3 + 7 * i) a)
  unfolding group_from address_from
  ssi_there i h =
      let p : 2 + 7 * i + 1 ≡ 3 + 7 * i = omega arith in
      sym (ap (λ (g : Group). (get_or g.addresses i nobody).ssi) users_there)
      ∙ ap (λ (x : Address). x.ssi) (row_at address_from 7 nobody 15 (drop 1 (drop 1 a)) i h)
      ∙ rw (drop-drop 1 1 a, drop-drop (7 * i) 2 a, drop-drop 1 (2 + 7 * i) a, p)

  module _ (m : ℕ) (small : get_or a 1 0 < 16) (meant : m ≡ get_or profile (6 + get_or a 1 0) 0) where
    users_mean : meaning_in (air_from profile).meanings v.users.range ≡ meaning_of m
    users_mean = ap (λ (x : ℕ). meaning_in (air_from profile).meanings x) range_there ∙ means profile (get_or a 1 0) small ∙ ap meaning_of (sym meant)

    pub list_spans : m < 16 → m ≡ min (span_of (air_from profile) v.users) 64
    unfolding span_of span_in
    list_spans h = rw users_mean (go (eqb m 0) refl)
      where
        go : (b : Bool) → eqb m 0 ≡ b → m ≡ min (span_in (meaning_of m) v.users.addresses) 64
        go true e = let z = eqb-true m 0 e in rw (none_listed m z) (omega (arith, z))
        go false e = rw (list_meant m (eqb-false m 0 e) h) (omega (arith, h))

    pub none_spans : m ≡ 16 → 0 ≡ min (span_of (air_from profile) v.users) 64
    unfolding span_of span_in
    none_spans e = rw (users_mean, none_meant m e) (omega arith)

    pub ends_span : m ≡ 17 → (k first last : ℕ) → first ≡ number_from 3 (drop 3 a) → last ≡ number_from 3 (drop 10 a) → k ≡ min (last - first + 1) 64
        → k ≡ min (span_of (air_from profile) v.users) 64
    unfolding span_of span_in
    ends_span e k first last f t is =
        let x : (get_or v.users.addresses 0 nobody).ssi ≡ first = ssi_there 0 (omega arith) ∙ sym f in
        let y : (get_or v.users.addresses 1 nobody).ssi ≡ last = ssi_there 1 (omega arith) ∙ sym t in
        rw (users_mean, ends_meant m e, x, y) is

-- by the contract of `span_in`
abbrev pub Spans : List ℕ → List ℕ → ℕ → Type 0
Spans profile a k = (v : Value) → Laid a v → k ≡ min (span_of (air_from profile) v.users) 64
