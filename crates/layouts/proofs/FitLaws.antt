-- A valid value's numbers fit the bytes of the layout, and each of its groups has fifteen places. Assumes nothing.
use Prim.Native.Nat.{ℕ, zero, suc, ◌+◌, ◌-◌, ◌*◌, ◌/◌, ◌^◌, ◌≤◌, ◌<◌, min}
use mathlib.Core.Path.{◌≡◌, refl, sym, ap, ◌∙◌, subst}
use mathlib.Core.Bool.{Bool, true, false, not, cond}
use mathlib.Core.List.{List, [], ◌∷◌, ◌++◌}
use native.Mathlib.Nat.{lt_of_lt_of_le}
use native.Mathlib.Omega.{arith}
use lib.Dec.{eqb, leb, ltb}
use lib.ListN.{length, get_or, take, drop, set, replicate, length-append, length-set, take-append-drop}
use lib.Pow.{pow_pos, pow_mono, shl_lt}
use borrow.Author.Tests.{eqb-true, leb-true, ltb-true}
use Rattle.codec.specs.Codec.{both, number, pure, guard, choose, vec_ok}
use Rattle.codec.specs.Options.{Optional, absent, there, flag, optional}
use Rattle.codec.proofs.Good.{both_left, both_right, not_both}
use Rattle.profile.specs.Rules.{meaning_in}
use Rattle.profile.specs.declared.Air.{Air}
use Rattle.message.specs.Elements as element
use Rattle.message.specs.Numbers as place
use Rattle.message.specs.Numbers.{widths, width_of}
use Rattle.message.specs.Addresses.{nobody, is_zero, is_nobody, kind_c, extension_c, address_c}
use Rattle.message.specs.Groups.{addresses_in, nobodies, are_none, places_c, addresses_c, range_c, group_c, no_group, with_address, span_of}
use Rattle.message.specs.Areas.{area_c, area_places_c, area_list_c, areas_c, no_areas}
use Rattle.message.specs.Acks.{mask_c, masked_c, result_c, state_c}
use Rattle.message.specs.Values.{no_lists, blank, with_number, with_given, with_lists}
use Rattle.message.specs.Rows.{table, row_of, Holds, part_c, put, Tuple, parts_c, puts, gets, Options, put_option, put_options, get_options, some_of, none_of, each_c, options_c, first_parts, parts_of, options_of}
use Rattle.message.specs.Messages.{fill, taken, body_c}
use Rattle.message.proofs.AddressLaws.{zero_is, is_nobody_lem}
use Rattle.message.proofs.GroupLaws.{few_addresses, range_allowed}
use Rattle.message.proofs.ValueLaws.{value_one}
use Rattle.message.proofs.RowLaws.{option_absent, options_absent, none_only}
use Rattle.message.proofs.TableLaws.{each_row}
use Rattle.message.specs.declared.Address.{Address}
use Rattle.message.specs.declared.Group.{Group}
use Rattle.message.specs.declared.Areas.{Areas}
use Rattle.message.specs.declared.Lists.{Lists}
use Rattle.message.specs.declared.State.{State}
use Rattle.message.specs.declared.Part.{Part}
use Rattle.message.specs.declared.Part.TheVariants as part
use Rattle.message.specs.declared.Row.{Row}
use Rattle.message.specs.declared.Value.{Value}
use Rattle.validity.specs.Validity.{valid_of}
use Rattle.validity.specs.Parts.{accepted_ok, not_accepted_ok}
use Rattle.validity.proofs.ValidLaws.{masked_there, masked_none, state_by_lem}
use Rattle.writing.proofs.LengthLaws.{valid_body}
use Rattle.layouts.proofs.RowLaws.{All, none, more}

pub record AddressFits (a : Address) : Type 0 where
  pub ssi : a.ssi < 2 ^ 24
  pub extension : a.extension < 2 ^ 24

pub record GroupFits (g : Group) : Type 0 where
  pub places : length g.addresses ≡ 15
  pub each : All AddressFits g.addresses

-- how many bytes the layout has for each of a value's numbers; one without bytes is 0
unfoldable pub sizes : List ℕ
sizes = 2 ∷ 1 ∷ 1 ∷ 1 ∷ 3 ∷ 1 ∷ 1 ∷ 1 ∷ 1 ∷ 1 ∷ 1 ∷ 0 ∷ []

unfoldable pub size_of : ℕ → ℕ
size_of k = get_or sizes k 0

pub record NumbersFit (l : List ℕ) : Type 0 where
  pub long : length l ≡ 12
  pub each : (k : ℕ) → get_or l k 0 < 2 ^ (8 * size_of k)

pub record ListsFit (x : Lists) : Type 0 where
  pub sources : GroupFits x.sources
  pub destinations : GroupFits x.destinations
  pub areas : length x.areas.areas ≡ 15

pub record ValueFits (v : Value) : Type 0 where
  pub numbers : NumbersFit v.numbers
  pub users : GroupFits v.users
  pub mask : v.mask < 2 ^ 64
  pub given : length v.given ≡ 7
  pub dispatchers : GroupFits v.dispatchers
  pub lists : ListsFit v.lists

-- ---- addresses

nobody_fits : AddressFits nobody
nobody_fits = record { ssi = omega arith; extension = omega arith }

zero_fits : (a : Address) → is_nobody a ≡ true → AddressFits a
zero_fits a e = subst (λ (x : Address). AddressFits x) (sym (is_nobody_lem a e)) nobody_fits

pub address_fits : (external : Bool) (a : Address) → (address_c external).ok a ≡ true → AddressFits a
unfolding address_c extension_c number
address_fits external a e =
    let s = both_right ((kind_c external).ok a.kind) _ (both_right true _ e) in
    record {
      ssi = ltb-true _ _ (both_left _ _ s);
      extension = go (eqb a.kind 1) (both_right (ltb a.ssi (2 ^ 24)) _ s);
    }
  where
    go : (b : Bool) → (choose b (pure 0 is_zero) (number element.extension 24)).ok a.extension ≡ true → a.extension < 2 ^ 24
    go true h = let z = zero_is a.extension h in omega arith
    go false h = ltb-true _ _ h

-- ---- groups

-- n addresses that fit
pub record Run (n : ℕ) (l : List Address) : Type 0 where
  pub long : length l ≡ n
  pub each : All AddressFits l

pub ok_run : (external : Bool) (n : ℕ) (l : List Address) → vec_ok (address_c external) n l ≡ true → Run n l
ok_run external zero [] e = record { long = refl; each = none }
ok_run external zero (a ∷ l) e = not_both e
ok_run external (suc n) [] e = not_both e
ok_run external (suc n) (a ∷ l) e =
    let r = ok_run external n l (both_right ((address_c external).ok a) _ e) in
    record { long = ap suc r.long; each = more (address_fits external a (both_left _ _ e)) r.each }

zero_run : (n : ℕ) (l : List Address) → are_none is_nobody n l ≡ true → Run n l
unfolding are_none
zero_run zero [] e = record { long = refl; each = none }
zero_run zero (a ∷ l) e = not_both e
zero_run (suc n) [] e = not_both e
zero_run (suc n) (a ∷ l) e =
    let r = zero_run n l (both_right (is_nobody a) _ e) in
    record { long = ap suc r.long; each = more (zero_fits a (both_left _ _ e)) r.each }

all_join : (xs ys : List Address) → All AddressFits xs → All AddressFits ys → All AddressFits (xs ++ ys)
all_join [] ys none q = q
all_join (x ∷ xs) ys (more p ps) q = more p (all_join xs ys ps q)

places_fit : (external : Bool) (k : ℕ) (l : List Address) → k ≤ 15 → (places_c external k).ok l ≡ true → Run 15 l
unfolding places_c
places_fit external k l h e =
    let p = ok_run external k (take k l) (both_right (are_none is_nobody (15 - k) (drop k l)) _ e) in
    let q = zero_run (15 - k) (drop k l) (both_left _ _ e) in
    let w : Run 15 (take k l ++ drop k l) =
    record {
      long = omega (arith, length-append (take k l) (drop k l), p.long, q.long);
      each = all_join (take k l) (drop k l) p.each q.each;
    } in
    subst (λ (x : List Address). Run 15 x) (take-append-drop k l) w

group_of : (g : Group) → Run 15 g.addresses → GroupFits g
group_of g r = record { places = r.long; each = r.each }

pub group_fits : (air : Air) (may external : Bool) (g : Group) → (group_c air may external).ok g ≡ true → GroupFits g
unfolding group_c addresses_c
group_fits air may external g e =
    let m = meaning_in air.meanings g.range in
    let w = both_right true _ e in
    let few = few_addresses may m (range_allowed air may g.range (both_left _ _ w)) in
    group_of g (places_fit external (addresses_in m) g.addresses few (both_left _ _ (both_right ((range_c air may).ok g.range) _ w)))

no_group_fits : GroupFits no_group
unfolding no_group nobodies
no_group_fits =
    let n = nobody_fits in
    record {
      places = refl;
      each = more n (more n (more n (more n (more n (more n (more n (more n (more n (more n (more n (more n (more n (more n (more n none))))))))))))));
    }

all_set : (l : List Address) (i : ℕ) (a : Address) → All AddressFits l → AddressFits a → All AddressFits (set l i a)
all_set [] i a none p = none
all_set (x ∷ l) zero a (more q qs) p = more p qs
all_set (x ∷ l) (suc i) a (more q qs) p = more q (all_set l i a qs p)

one_fits : (g : Group) (i : ℕ) (a : Address) → GroupFits g → AddressFits a → GroupFits (with_address i a g)
one_fits g i a p q = record { places = length-set g.addresses i a ∙ p.places; each = all_set g.addresses i a p.each q }

-- ---- areas

all_long : (n : ℕ) (l : List ℕ) → vec_ok area_c n l ≡ true → length l ≡ n
all_long zero [] e = refl
all_long zero (a ∷ l) e = not_both e
all_long (suc n) [] e = not_both e
all_long (suc n) (a ∷ l) e = ap suc (all_long n l (both_right (area_c.ok a) _ e))

none_long : (n : ℕ) (l : List ℕ) → are_none is_zero n l ≡ true → length l ≡ n
unfolding are_none
none_long zero [] e = refl
none_long zero (a ∷ l) e = not_both e
none_long (suc n) [] e = not_both e
none_long (suc n) (a ∷ l) e = ap suc (none_long n l (both_right (is_zero a) _ e))

pub areas_fit : (air : Air) (a : Areas) → (areas_c air).ok a ≡ true → length a.areas ≡ 15
unfolding areas_c area_list_c area_places_c
areas_fit air a e =
    let m = meaning_in air.meanings a.range in
    let k = addresses_in m in
    let w = both_right true _ e in
    let few : k ≤ 15 = few_addresses true m (range_allowed air true a.range (both_left _ _ w)) in
    let z = both_left _ _ (both_right ((range_c air true).ok a.range) _ w) in
    ap (λ (x : List ℕ). length x) (sym (take-append-drop k a.areas))
    ∙ omega (
      arith,
      few,
      length-append (take k a.areas) (drop k a.areas),
      all_long k (take k a.areas) (both_right (are_none is_zero (15 - k) (drop k a.areas)) _ z),
      none_long (15 - k) (drop k a.areas) (both_left _ _ z),
    )

no_lists_fit : ListsFit no_lists
unfolding no_lists no_areas
no_lists_fit = record { sources = no_group_fits; destinations = no_group_fits; areas = refl }

-- ---- masks

mask_fits : (n m : ℕ) → n ≤ 64 → (mask_c n).ok m ≡ true → m < 2 ^ 64
unfolding mask_c number
mask_fits n m h e =
    let s : n + (64 - n) ≡ 64 = omega arith in
    let q = eqb-true _ _ (both_left _ _ e) in
    let w = shl_lt {a = m / 2 ^ (64 - n)} n (64 - n) (ltb-true _ _ (both_right (eqb (m / 2 ^ (64 - n) * 2 ^ (64 - n)) m) _ e)) in
    subst (λ (x : ℕ). x < 2 ^ 64) q (rw s at w)

masked_fits : (n : ℕ) (b : Bool) (m : ℕ) → n ≤ 64 → (masked_c n).ok (b, m) ≡ true → m < 2 ^ 64
masked_fits n true m h e = mask_fits n m h (sym (masked_there n m true refl) ∙ e)
masked_fits n false m h e = let z = zero_is m (sym (masked_none n m false refl) ∙ e) in omega arith

-- ---- parts

-- a part that the layout has bytes for
abbrev pub has_bytes : Part → Bool
has_bytes part.Nothing = true
has_bytes (part.Number k) = leb (width_of k) (8 * size_of k)
has_bytes part.Users = true
has_bytes (part.User i) = true
has_bytes part.Masked = true
has_bytes part.Result = true
has_bytes part.Dispatchers = true
has_bytes part.Dispatcher = true
has_bytes part.Interrogation = true
has_bytes part.Sources = true
has_bytes part.Destinations = true
has_bytes part.Areas = true

-- what each element has, each has after one was stored
set_each : {A : Type 0} (d : A) (P : ℕ → A → Type 0) (l : List A) (k : ℕ) (x : A) → P k x → ((i : ℕ) → P i (get_or l i d)) → (i : ℕ) → P i (get_or (set l k x) i d)
set_each d P [] k x p h i = h i
set_each d P (a ∷ l) zero x p h zero = p
set_each d P (a ∷ l) zero x p h (suc i) = h (suc i)
set_each d P (a ∷ l) (suc k) x p h zero = h 0
set_each d P (a ∷ l) (suc k) x p h (suc i) = set_each d (λ j y. P (suc j) y) l k x p (λ j. h (suc j)) i

set_number : (l : List ℕ) (k x : ℕ) → NumbersFit l → x < 2 ^ (8 * size_of k) → NumbersFit (set l k x)
set_number l k x n h =
    record { long = length-set l k x ∙ n.long; each = set_each 0 (λ i y. y < 2 ^ (8 * size_of i)) l k x h n.each }

pub number_fits : (k x : ℕ) (v : Value) → ValueFits v → x < 2 ^ (8 * size_of k) → ValueFits (with_number k x v)
number_fits k x v f h =
    record { numbers = set_number v.numbers k x f.numbers h; users = f.users; mask = f.mask; given = f.given; dispatchers = f.dispatchers; lists = f.lists }

reason_most : (r w : ℕ) → result_c.ok (r, w) ≡ true → w < 2 ^ (8 * size_of place.reason)
unfolding result_c number size_of sizes
reason_most r w e = go (eqb r 1) (both_right (ltb r (2 ^ 1)) _ e)
  where
    go : (b : Bool) → (choose b (pure 0 is_zero) (number element.reason 7)).ok w ≡ true → w < 2 ^ 8
    go true h = let z = zero_is w h in omega arith
    go false h = let z : w < 2 ^ 7 = ltb-true _ _ h in omega arith

result_most : (r w : ℕ) → result_c.ok (r, w) ≡ true → r < 2 ^ (8 * size_of place.result)
unfolding result_c number size_of sizes
result_most r w e = let h : r < 2 ^ 1 = ltb-true _ _ (both_left _ _ e) in omega arith

one_byte : {n : ℕ} → n < 2 ^ 8 → n < 2 ^ (8 * 1)
one_byte h = h

with_lists_lem : (v : Value) (x : Lists) → ValueFits v → ListsFit x → ValueFits (with_lists x v)
with_lists_lem v x f l = record { numbers = f.numbers; users = f.users; mask = f.mask; given = f.given; dispatchers = f.dispatchers; lists = l }

-- a state's numbers are small
below : (n k : ℕ) → k ≤ 7 → leb n k ≡ true → n < 2 ^ 8
below n k h e = let z = leb-true n k e in omega arith

zero_below : (n : ℕ) → is_zero n ≡ true → n < 2 ^ 8
zero_below n e = let z = zero_is n e in omega arith

abbrev Small : State → Type 0
Small s = (s.result < 2 ^ 8) × ((s.reason < 2 ^ 8) × ((s.activation < 2 ^ 8) × ((s.interception < 2 ^ 8) × ((s.called < 2 ^ 8) × (s.calling < 2 ^ 8)))))

state_small : (s : State) → state_c.ok s ≡ true → Small s
unfolding accepted_ok not_accepted_ok
state_small s e = go (eqb s.result 1) (sym (state_by_lem s) ∙ e)
  where
    go : (b : Bool) → both (leb s.result 1) (cond b (accepted_ok s) (not_accepted_ok s)) ≡ true → Small s
    go true z =
        let w = both_right (leb s.result 1) _ z in
        let w₁ = both_right (is_zero s.reason) _ w in
        let w₂ = both_right (leb s.activation 1) _ w₁ in
        let w₃ = both_right (leb s.interception 1) _ w₂ in
        (below _ 1 (omega arith) (both_left _ _ z), (zero_below _ (both_left _ _ w), (below _ 1 (omega arith) (both_left _ _ w₁), (below _ 1 (omega arith) (both_left _ _ w₂), (below _ 3 (omega arith) (both_left _ _ w₃), below _ 3 (omega arith) (both_right (leb s.called 3) _ w₃))))))
    go false z =
        let w = both_right (leb s.result 1) _ z in
        let w₁ = both_right (leb s.reason 7) _ w in
        let w₂ = both_right (is_zero s.activation) _ w₁ in
        let w₃ = both_right (is_zero s.interception) _ w₂ in
        (below _ 1 (omega arith) (both_left _ _ z), (below _ 7 (omega arith) (both_left _ _ w), (zero_below _ (both_left _ _ w₁), (zero_below _ (both_left _ _ w₂), (zero_below _ (both_left _ _ w₃), zero_below _ (both_right (is_zero s.called) _ w₃))))))

pub part_fits : (air : Air) (u : Value) (p : Part) (x : Holds p) (v : Value) → ValueFits v → has_bytes p ≡ true → (part_c air u p).ok x ≡ true → ValueFits (put p x v)
unfolding number size_of sizes
part_fits air u part.Nothing x v f b e = f
part_fits air u (part.Number k) x v f b e = number_fits k x v f (lt_of_lt_of_le (ltb-true _ _ e) (pow_mono {j = 8 * size_of k} (leb-true _ _ b)))
part_fits air u part.Users x v f b e =
    record { numbers = f.numbers; users = group_fits air false false x e; mask = f.mask; given = f.given; dispatchers = f.dispatchers; lists = f.lists }
part_fits air u (part.User i) x v f b e =
    record { numbers = f.numbers; users = one_fits v.users i x f.users (address_fits false x e); mask = f.mask; given = f.given; dispatchers = f.dispatchers; lists = f.lists }
part_fits air u part.Masked x v f b e =
    record { numbers = f.numbers; users = f.users; mask = masked_fits (min (span_of air u.users) 64) x.0 x.1 (omega arith) e; given = f.given; dispatchers = f.dispatchers; lists = f.lists }
part_fits air u part.Result x v f b e =
    number_fits place.reason x.1 _ (number_fits place.result x.0 v f (result_most x.0 x.1 e)) (reason_most x.0 x.1 e)
part_fits air u part.Dispatchers x v f b e =
    record { numbers = f.numbers; users = f.users; mask = f.mask; given = f.given; dispatchers = group_fits air true false x e; lists = f.lists }
part_fits air u part.Dispatcher x v f b e =
    record { numbers = f.numbers; users = f.users; mask = f.mask; given = f.given; dispatchers = one_fits v.dispatchers 0 x f.dispatchers (address_fits false x e); lists = f.lists }
part_fits air u part.Interrogation x v f b e =
    let s = state_small x e in
    number_fits place.calling_service x.calling _
    (number_fits place.called_service x.called _
    (number_fits place.interception_type x.interception _
    (number_fits place.activation_type x.activation _
    (number_fits place.reason x.reason _ (number_fits place.result x.result v f (one_byte s.0)) (one_byte s.1.0)) (one_byte s.1.1.0))
    (one_byte s.1.1.1.0)) (one_byte s.1.1.1.1.0)) (one_byte s.1.1.1.1.1)
part_fits air u part.Sources x v f b e = with_lists_lem v _ f (record { sources = group_fits air true false x e; destinations = f.lists.destinations; areas = f.lists.areas })
part_fits air u part.Destinations x v f b e = with_lists_lem v _ f (record { sources = f.lists.sources; destinations = group_fits air true true x e; areas = f.lists.areas })
part_fits air u part.Areas x v f b e = with_lists_lem v _ f (record { sources = f.lists.sources; destinations = f.lists.destinations; areas = areas_fit air x e })

-- ---- rows

abbrev all_have_bytes : List Part → Bool
all_have_bytes [] = true
all_have_bytes (p ∷ ps) = both (has_bytes p) (all_have_bytes ps)

parts_fit : (air : Air) (ps : List Part) (x : Tuple ps) (v : Value) → ValueFits v → all_have_bytes ps ≡ true → (parts_c air v ps).ok x ≡ true → ValueFits (puts ps x v)
unfolding parts_c puts
parts_fit air [] x v f b e = f
parts_fit air (p ∷ ps) x v f b e =
    parts_fit air ps x.1 (put p x.0 v) (part_fits air v p x.0 v f (both_left _ _ b) (both_left _ _ e)) (both_right (has_bytes p) _ b) (both_right ((part_c air v p).ok x.0) _ e)

each_same : {A : Type 0} (d : A) (n i : ℕ) → get_or (replicate n d) i d ≡ d
each_same d zero i = refl
each_same d (suc n) zero = refl
each_same d (suc n) (suc i) = each_same d n i

pub blank_fits : (t : ℕ) → ValueFits (blank t)
unfolding blank
blank_fits t =
    record {
      numbers = record { long = refl; each = λ k. omega (arith, each_same {A = ℕ} 0 12 k, pow_pos (8 * size_of k)) };
      users = no_group_fits;
      mask = omega arith;
      given = refl;
      dispatchers = no_group_fits;
      lists = no_lists_fit;
    }

pub with_given_lem : (v : Value) (i : ℕ) (b : Bool) → ValueFits v → ValueFits (with_given i b v)
with_given_lem v i b f =
    record { numbers = f.numbers; users = f.users; mask = f.mask; given = length-set v.given i b ∙ f.given; dispatchers = f.dispatchers; lists = f.lists }

option_fits : (air : Air) (u : Value) (i : ℕ) (q : Part) (x : Optional (Holds q)) (v : Value) → ValueFits v → has_bytes q ≡ true
    → (optional element.p_bit (part_c air u q)).ok x ≡ true → ValueFits (put_option i q x v)
option_fits air u i q absent v f b e = subst (λ (w : Value). ValueFits w) (sym (option_absent i q v)) f
option_fits air u i q (there a) v f b e = with_given_lem (put q a v) i true (part_fits air u q a v f b (both_right ((flag element.p_bit).ok true) _ (both_right true _ e)))

each_fit : (air : Air) (i : ℕ) (qs : List Part) (x : Options qs) (v : Value) → ValueFits v → all_have_bytes qs ≡ true → (each_c air i v qs).ok x ≡ true
    → ValueFits (put_options i qs x v)
unfolding each_c put_options
each_fit air i [] x v f b e = f
each_fit air i (q ∷ qs) x v f b e =
    each_fit air (suc i) qs x.1 (put_option i q x.0 v) (option_fits air v i q x.0 v f (both_left _ _ b) (both_left _ _ e)) (both_right (has_bytes q) _ b)
    (both_right ((optional element.p_bit (part_c air v q)).ok x.0) _ e)

options_fit : (air : Air) (qs : List Part) (x : Options qs) (v : Value) → ValueFits v → all_have_bytes qs ≡ true → (options_c air v qs).ok x ≡ true
    → ValueFits (put_options 0 qs x v)
unfolding options_c put_options
options_fit air [] x v f b e = f
options_fit air (q ∷ qs) x v f b e = go (some_of (q ∷ qs) x) (both_right ((flag element.o_bit).ok (some_of (q ∷ qs) x)) _ (both_right true _ e))
  where
    go : (s : Bool) → (choose s (guard 12 (some_of (q ∷ qs)) (each_c air 0 v (q ∷ qs))) (pure (none_of (q ∷ qs)) (λ y. not (some_of (q ∷ qs) y)))).ok x ≡ true
        → ValueFits (put_options 0 (q ∷ qs) x v)
    go true k = each_fit air 0 (q ∷ qs) x v f b (both_left ((each_c air 0 v (q ∷ qs)).ok x) _ k)
    go false k =
        subst (λ (w : Value). ValueFits w)
        (sym (ap (λ (y : Options (q ∷ qs)). put_options 0 (q ∷ qs) y v) (none_only (q ∷ qs) x k) ∙ options_absent 0 (q ∷ qs) v)) f

abbrev row_has_bytes : Row → Bool
row_has_bytes r = both (all_have_bytes (parts_of r)) (all_have_bytes (options_of r))

row_bytes : (t : ℕ) → row_has_bytes (row_of t) ≡ true
unfolding row_of table first_parts both width_of widths size_of sizes
row_bytes t = each_row (λ u r. row_has_bytes r) table t refl refl

body_fits : (air : Air) (t : ℕ) (v : Value) → (body_c air t).ok v ≡ true → ValueFits v
unfolding body_c
body_fits air t v e =
    let ps = parts_of (row_of t) in
    let qs = options_of (row_of t) in
    let b = row_bytes t in
    let ok = both_right _ _ e in
    subst (λ (w : Value). ValueFits w) (value_one (fill t ps qs (taken t ps qs v)) v (both_left _ _ e))
    (options_fit air qs (get_options 0 qs v) (puts ps (gets ps v) (blank t)) (parts_fit air ps (gets ps v) (blank t) (blank_fits t) (both_left _ _ b) (both_left _ _ ok)) (both_right (all_have_bytes ps) _ b) (both_right _ _ ok))

pub valid_fits : (air : Air) (v : Value) → valid_of air v ≡ true → ValueFits v
valid_fits air v e = body_fits air v.pdu v (valid_body air v e)
