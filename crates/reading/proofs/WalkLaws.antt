-- A walk is what reading is where its value is forgotten: the same refusals, the same positions, the same PDU type. Assumes nothing.
use Prim.Native.Nat.{ℕ, zero, suc, ◌+◌, ◌-◌, ◌*◌, ◌<◌, ◌≤◌, min}
use mathlib.Core.Path.{◌≡◌, refl, sym, ap, ◌∙◌}
use mathlib.Core.Bool.{Bool, true, false, cond, ◌||◌}
use mathlib.Core.List.{List, [], ◌∷◌}
use native.Mathlib.Omega.{arith}
use lib.Dec.{eqb, leb}
use lib.ListN.{length, drop, replicate, drop_of_length-le}
use lib.Seq.{sets}
use borrow.Author.Tests.{le-leb, lt-leb}
use Rattle.bits.specs.Fields.{bit_at, field_at}
use Rattle.codec.specs.Stops.{short, refusal}
use Rattle.codec.specs.Codec.{Read, got, no, bind, both, number, pure, choose, vec_read}
use Rattle.codec.specs.Options.{flag}
use Rattle.codec.specs.declared.Stop.{Stop}
use Rattle.codec.proofs.Good.{both_left, both_right, not_both}
use Rattle.profile.specs.Rules.{meaning_in}
use Rattle.profile.specs.declared.Air.{Air}
use Rattle.profile.specs.declared.Kind.{Kind}
use Rattle.profile.specs.declared.Kind.TheVariants as kind
use Rattle.profile.specs.declared.Meaning.{Meaning}
use Rattle.message.specs.Elements as element
use Rattle.message.specs.Numbers.{element_of, width_of}
use Rattle.message.specs.Addresses.{nobody, is_zero, kind_c, extension_c, address_c}
use Rattle.message.specs.Groups.{addresses_by, addresses_in, ends_by, ends_ok, range_ok, span_by, span_in, span_of, places_c, addresses_c, range_c, group_c}
use Rattle.message.specs.Areas.{areas_c}
use Rattle.message.specs.Acks.{masked_c, result_c, state_c}
use Rattle.message.specs.Values.{blank, with_users, with_given}
use Rattle.message.specs.Rows.{table, row_of, put}
use Rattle.message.specs.Messages.{header_c, body_c, message_c}
use Rattle.message.specs.Reading.{whole_of, length_ok, read_bits}
use Rattle.message.specs.declared.Address.{Address}
use Rattle.message.specs.declared.Group.{Group}
use Rattle.message.specs.declared.Part.{Part}
use Rattle.message.specs.declared.Part.TheVariants as part
use Rattle.message.specs.declared.Row.{Row}
use Rattle.message.specs.declared.Slot.{Slot}
use Rattle.message.specs.declared.Value.{Value}
use Rattle.message.proofs.TableLaws.{each_row}
use Rattle.reading.specs.Parts.{part_read, parts_read, option_read, each_read, behind_read, options_read}
use Rattle.reading.specs.Walks.{type_in, keep, pass_of, address_walk, addresses_walk, ends_walk, list_by, list_walk, group_walk, part_walk, parts_walk, each_walk, behind_walk, options_walk, body_walk, whole_walk}
use Rattle.reading.proofs.RowLaws.{over, slot_here, slots_more, slots_cut, body_row}

-- where a reading ended
abbrev past : {A : Type 0} → Read A → Read Unit
past r = bind r (λ _ q. got tt q)

past_got : {A B : Type 0} (r : Read A) (g : A → B) → past (bind r (λ a q. got (g a) q)) ≡ past r
past_got (got a p) g = refl
past_got (no s) g = refl

keep_past : {A : Type 0} (k : ℕ) (r : Read A) → keep k (past r) ≡ keep k r
keep_past k (got a p) = refl
keep_past k (no s) = refl

-- ---- an element, an address, some of them

pass_is : (e w : ℕ) (f : ℕ → ℕ) (n at : ℕ) → pass_of e n at w ≡ past ((number e w).read f n at)
unfolding pass_of number
pass_is e w f n at = go (leb (at + w) n)
  where
    go : (b : Bool) → cond b (got tt (at + w)) (no (short e at)) ≡ past (cond b (got (field_at f at w) (at + w)) (no (short e at)))
    go true = refl
    go false = refl

pub pass_past : (e n at w : ℕ) → n < at + w → pass_of e n at w ≡ no (short e at)
unfolding pass_of
pass_past e n at w h = rw (lt-leb (at + w) n h)

pub pass_there : (e n at w : ℕ) → at + w ≤ n → pass_of e n at w ≡ got tt (at + w)
unfolding pass_of
pass_there e n at w h = rw (le-leb (at + w) n h)

module _ (f : ℕ → ℕ) (n : ℕ) where
  abbrev as_address : Read (ℕ × (ℕ × ℕ)) → Read Address
  as_address r = bind r (λ x q. got (record { kind = x.0; ssi = x.1.0; extension = x.1.1 }) q)

  with_extension : (b : Bool) (k s q : ℕ)
      → cond b (got tt q) (pass_of element.extension n q 24)
      ≡ past (as_address (bind (bind ((choose b (pure 0 is_zero) (number element.extension 24)).read f n q) (λ x t. got (s, x) t)) (λ y t. got (k, y) t)))
  with_extension true k s q = refl
  with_extension false k s q = pass_is element.extension 24 f n q ∙ go ((number element.extension 24).read f n q)
    where
      go : (r : Read ℕ) → past r ≡ past (as_address (bind (bind r (λ x t. got (s, x) t)) (λ y t. got (k, y) t)))
      go (got x t) = refl
      go (no t) = refl

  with_ssi : (k : ℕ) (r : Read ℕ)
      → bind (past r) (λ _ q. cond (eqb k 1) (got tt q) (pass_of element.extension n q 24))
      ≡ past (as_address (bind (bind r (λ s q. bind ((extension_c k).read f n q) (λ x t. got (s, x) t))) (λ y t. got (k, y) t)))
  unfolding extension_c
  with_ssi k (got s q) = with_extension (eqb k 1) k s q
  with_ssi k (no s) = refl

  with_kind : (r : Read ℕ)
      → bind r (λ k p. bind (pass_of element.ssi n p 24) (λ _ q. cond (eqb k 1) (got tt q) (pass_of element.extension n q 24)))
      ≡ past (as_address (bind r (λ k p. bind (bind ((number element.ssi 24).read f n p) (λ s q. bind ((extension_c k).read f n q) (λ x t. got (s, x) t))) (λ y t. got (k, y) t))))
  with_kind (got k p) = rw (pass_is element.ssi 24 f n p) (with_ssi k ((number element.ssi 24).read f n p))
  with_kind (no s) = refl

  address_is : (external : Bool) (at : ℕ) → address_walk external f n at ≡ past ((address_c external).read f n at)
  unfolding address_walk address_c
  address_is external at = with_kind ((kind_c external).read f n at)

  addresses_is : (external : Bool) (k at : ℕ) → addresses_walk external k f n at ≡ past (vec_read (address_c external) k f n at)
  unfolding addresses_walk vec_read
  addresses_is external zero at = refl
  addresses_is external (suc k) at = rw (address_is external at) (go (addresses_is external k) ((address_c external).read f n at))
    where
      go : ((at : ℕ) → addresses_walk external k f n at ≡ past (vec_read (address_c external) k f n at)) → (r : Read Address)
          → bind (past r) (λ _ q. addresses_walk external k f n q)
          ≡ past (bind r (λ a p. bind (vec_read (address_c external) k f n p) (λ xs q. got (a ∷ xs) q)))
      go rest (got a p) = rest p ∙ sym (past_got (vec_read (address_c external) k f n p) (λ xs. a ∷ xs))
      go rest (no s) = refl

-- ---- groups

module _ (external : Bool) (f : ℕ → ℕ) (n : ℕ) where
  abbrev placed : Kind → ℕ → Read (List Address) → Read ℕ
  placed k c r =
      bind (bind (bind r (λ xs q. got (sets (replicate 15 nobody) 0 xs) q)) (λ l q. cond (ends_by k l) (got l q) (no (refusal 11)))) (λ l q. got (span_by k c l) q)

  two_ends : (a b : Address) (q : ℕ) (x : Bool)
      → cond x (got (b.ssi - a.ssi + 1) q) (no (refusal 11))
      ≡ bind (cond x (got (sets (replicate 15 nobody) 0 (a ∷ b ∷ [])) q) (no (refusal 11))) (λ l q. got (span_by kind.FirstLast 0 l) q)
  two_ends a b q true = refl
  two_ends a b q false = refl

  list_by_lem : (k : Kind) (c at : ℕ) → list_by k c external f n at ≡ placed k c (vec_read (address_c external) (addresses_by k c) f n at)
  unfolding vec_read ends_walk
  list_by_lem kind.Reserved c at = refl
  list_by_lem kind.Nobody c at = refl
  list_by_lem kind.Listed c at = rw (addresses_is f n external c at) (go (vec_read (address_c external) c f n at))
    where
      go : (r : Read (List Address)) → keep c (past r) ≡ placed kind.Listed c r
      go (got l p) = refl
      go (no s) = refl
  list_by_lem kind.FirstLast c at = ends ((address_c external).read f n at)
    where
      last : (a : Address) (r : Read Address)
          → bind r (λ b q. cond (range_ok a b) (got (b.ssi - a.ssi + 1) q) (no (refusal 11)))
          ≡ placed kind.FirstLast c (bind (bind r (λ b q. bind (got [] q) (λ xs t. got (b ∷ xs) t))) (λ xs q. got (a ∷ xs) q))
      last a (got b q) = two_ends a b q (range_ok a b)
      last a (no s) = refl

      ends : (r : Read Address)
          → bind r (λ a p. bind ((address_c external).read f n p) (λ b q. cond (range_ok a b) (got (b.ssi - a.ssi + 1) q) (no (refusal 11))))
          ≡ placed kind.FirstLast c (bind r (λ a p. bind (vec_read (address_c external) 1 f n p) (λ xs q. got (a ∷ xs) q)))
      ends (got a p) = last a ((address_c external).read f n p)
      ends (no s) = refl

  list_is : (m : Meaning) (at : ℕ) → list_walk external m f n at ≡ bind ((addresses_c external m).read f n at) (λ l q. got (span_in m l) q)
  unfolding list_walk addresses_c places_c addresses_in ends_ok span_in
  list_is m at = list_by_lem m.kind m.count at

  -- how many identities a group names
  abbrev named : Air → Read Group → Read ℕ
  named air r = bind r (λ g q. got (span_of air g) q)

  group_is : (air : Air) (none : Bool) (at : ℕ) → group_walk air none external f n at ≡ named air ((group_c air none external).read f n at)
  unfolding group_walk group_c span_of
  group_is air none at = go ((range_c air none).read f n at)
    where
      in_range : (r : ℕ) (l : Read (List Address))
          → bind l (λ l q. got (span_in (meaning_in air.meanings r) l) q)
          ≡ named air (bind (bind l (λ l q. got (r, l) q)) (λ (x : ℕ × List Address) q. got (record { range = x.0; addresses = x.1 }) q))
      in_range r (got l q) = refl
      in_range r (no s) = refl

      go : (r : Read ℕ)
          → bind r (λ r p. list_walk external (meaning_in air.meanings r) f n p)
          ≡ named air (bind (bind r (λ r p. bind ((addresses_c external (meaning_in air.meanings r)).read f n p) (λ l q. got (r, l) q))) (λ (x : ℕ × List Address) q. got (record { range = x.0; addresses = x.1 }) q))
      go (got r p) = list_is (meaning_in air.meanings r) p ∙ in_range r ((addresses_c external (meaning_in air.meanings r)).read f n p)
      go (no s) = refl

-- ---- parts

-- whether the number that a walk keeps is that of the users, before a part and after it
abbrev after : Bool → Part → Bool
after b part.Nothing = b
after b (part.Number k) = b
after b part.Users = true
after b (part.User i) = false
after b part.Masked = b
after b part.Result = b
after b part.Dispatchers = b
after b part.Dispatcher = b
after b part.Interrogation = b
after b part.Sources = b
after b part.Destinations = b
after b part.Areas = b

-- a mask asks for it
abbrev fits : Bool → Part → Bool
fits b part.Masked = b
fits b part.Nothing = true
fits b (part.Number k) = true
fits b part.Users = true
fits b (part.User i) = true
fits b part.Result = true
fits b part.Dispatchers = true
fits b part.Dispatcher = true
fits b part.Interrogation = true
fits b part.Sources = true
fits b part.Destinations = true
fits b part.Areas = true

-- along some slots; what an option leaves is known whether it is there or not
unfoldable after_all : Bool → ℕ → List Slot → Bool
after_all b zero l = b
after_all b (suc c) [] = b
after_all b (suc c) (s ∷ l) = after_all (after b s.part) c l

unfoldable steady : Bool → ℕ → List Slot → Bool
steady b zero l = true
steady b (suc c) [] = true
steady b (suc c) (s ∷ l) = both (fits b s.part) (steady (after b s.part) c l)

unfoldable steady_options : Bool → ℕ → List Slot → Bool
steady_options b zero l = true
steady_options b (suc c) [] = true
steady_options b (suc c) (s ∷ l) = both (fits b s.part) (both (steady_options b c l) (steady_options (after b s.part) c l))

-- no row has a mask but behind users, and none behind one user alone
abbrev row_steady : Row → Bool
row_steady r = both (steady false r.count r.parts) (steady_options (after_all false r.count r.parts) r.options r.optional)

row_steady_lem : (t : ℕ) → row_steady (row_of t) ≡ true
unfolding row_of table both steady steady_options after_all
row_steady_lem t = each_row (λ u r. row_steady r) table t refl refl

module _ (air : Air) (t : ℕ) where
  -- k is that of the users, where b says so
  abbrev Known : Bool → Value → ℕ → Type 0
  Known b v k = b ≡ true → span_of air v.users ≡ k

  -- a walk went the way of a reading, of a message of type t
  abbrev Follows : Bool → Read Value → Read ℕ → Type 0
  Follows b (got v p) (got k q) = (p ≡ q) × ((v.pdu ≡ t) × Known b v k)
  Follows b (got v p) (no s) = ⊥
  Follows b (no s) (got k q) = ⊥
  Follows b (no s) (no u) = s ≡ u

  keeps : {A : Type 0} (b : Bool) (k : ℕ) (g : A → Value) → ((x : A) → (g x).pdu ≡ t) → ((x : A) → Known b (g x) k) → (r : Read A) → Follows b (bind r (λ x q. got (g x) q)) (keep k r)
  keeps b k g e h (got x q) = (refl, (e x, h x))
  keeps b k g e h (no s) = refl

  module _ (b : Bool) (v : Value) (k : ℕ) (f : ℕ → ℕ) (n at : ℕ) (e : v.pdu ≡ t) (h : Known b v k) where
    users_follow : (r : Read Group) → Follows true (bind r (λ g q. got (with_users g v) q)) (named false f n air r)
    users_follow (got g q) = (refl, (e, λ _. refl))
    users_follow (no s) = refl

    others_follow : (g : Group → Value) → ((x : Group) → (g x).pdu ≡ t) → ((x : Group) → Known b (g x) k) → (r : Read Group) → Follows b (bind r (λ x q. got (g x) q)) (keep k (named false f n air r))
    others_follow g e' h' (got x q) = (refl, (e' x, h' x))
    others_follow g e' h' (no s) = refl

    part_follows : (p : Part) → fits b p ≡ true → Follows (after b p) (part_read air v p f n at) (part_walk air k p f n at)
    unfolding part_read part_walk
    part_follows part.Nothing z = (refl, (e, h))
    part_follows (part.Number j) z =
        rw (pass_is (element_of j) (width_of j) f n at, keep_past k ((number (element_of j) (width_of j)).read f n at))
        (keeps b k (λ x. put (part.Number j) x v) (λ x. e) (λ x. h) ((number (element_of j) (width_of j)).read f n at))
    part_follows part.Users z = rw (group_is false f n air false at) (users_follow ((group_c air false false).read f n at))
    part_follows (part.User i) z =
        rw (address_is f n false at, keep_past k ((address_c false).read f n at))
        (keeps false k (λ x. put (part.User i) x v) (λ x. e) (λ x y. not_both y) ((address_c false).read f n at))
    part_follows part.Masked z = rw (h z) (keeps b k (λ x. put part.Masked x v) (λ x. e) (λ x. h) ((masked_c (min k 64)).read f n at))
    part_follows part.Result z = keeps b k (λ x. put part.Result x v) (λ x. e) (λ x. h) (result_c.read f n at)
    part_follows part.Dispatchers z =
        rw (group_is false f n air true at) (others_follow (λ x. put part.Dispatchers x v) (λ x. e) (λ x. h) ((group_c air true false).read f n at))
    part_follows part.Dispatcher z =
        rw (address_is f n false at, keep_past k ((address_c false).read f n at))
        (keeps b k (λ x. put part.Dispatcher x v) (λ x. e) (λ x. h) ((address_c false).read f n at))
    part_follows part.Interrogation z = keeps b k (λ x. put part.Interrogation x v) (λ x. e) (λ x. h) (state_c.read f n at)
    part_follows part.Sources z =
        rw (group_is false f n air true at) (others_follow (λ x. put part.Sources x v) (λ x. e) (λ x. h) ((group_c air true false).read f n at))
    part_follows part.Destinations z =
        rw (group_is true f n air true at) (others_follow (λ x. put part.Destinations x v) (λ x. e) (λ x. h) ((group_c air true true).read f n at))
    part_follows part.Areas z = keeps b k (λ x. put part.Areas x v) (λ x. e) (λ x. h) ((areas_c air).read f n at)

  -- ---- a row's parts

  follow_on : (b d : Bool) (g : Value → ℕ → Read Value) (w : ℕ → ℕ → Read ℕ)
      → ((v : Value) (k p : ℕ) → v.pdu ≡ t → Known b v k → Follows d (g v p) (w k p)) → (r : Read Value) (x : Read ℕ) → Follows b r x → Follows d (bind r g) (bind x w)
  follow_on b d g w rest (got v p) (got k q) h = rw (sym h.0) (rest v k p h.1.0 h.1.1)
  follow_on b d g w rest (got v p) (no s) h = absurd h
  follow_on b d g w rest (no s) (got k q) h = absurd h
  follow_on b d g w rest (no s) (no u) h = h

  parts_follow : (c : ℕ) (l : List Slot) (b : Bool) (v : Value) (k : ℕ) (f : ℕ → ℕ) (n at : ℕ) → v.pdu ≡ t → Known b v k → steady b c l ≡ true
      → Follows (after_all b c l) (parts_read air v c l f n at) (parts_walk air k c l f n at)
  unfolding parts_read parts_walk steady after_all
  parts_follow zero l b v k f n at e h z = (refl, (e, h))
  parts_follow (suc c) [] b v k f n at e h z = (refl, (e, h))
  parts_follow (suc c) (s ∷ l) b v k f n at e h z =
      follow_on (after b s.part) (after_all (after b s.part) c l) (λ w q. parts_read air w c l f n q) (λ j q. parts_walk air j c l f n q)
      (λ w j q e' h'. parts_follow c l (after b s.part) w j f n q e' h' (both_right (fits b s.part) (steady (after b s.part) c l) z))
      (part_read air v s.part f n at) (part_walk air k s.part f n at)
      (part_follows b v k f n at e h s.part (both_left (fits b s.part) (steady (after b s.part) c l) z))

  -- ---- its options

  abbrev FollowsEach : Read (Bool × Value) → Read Bool → Type 0
  FollowsEach (got x p) (got some q) = (p ≡ q) × ((x.0 ≡ some) × (x.1.pdu ≡ t))
  FollowsEach (got x p) (no s) = ⊥
  FollowsEach (no s) (got some q) = ⊥
  FollowsEach (no s) (no u) = s ≡ u

  or_true : (b : Bool) → b || true ≡ true
  or_true true = refl
  or_true false = refl

  or_false : (b : Bool) → b || false ≡ b
  or_false true = refl
  or_false false = refl

  module _ (i : ℕ) (some : Bool) (f : ℕ → ℕ) (n : ℕ) (c : ℕ) (l : List Slot) where
    -- the rest of the options, from any value on
    abbrev Rest : Bool → Type 0
    Rest b = (yet : Bool) (v : Value) (k at : ℕ) → v.pdu ≡ t → Known b v k → FollowsEach (each_read air (suc i) yet v c l f n at) (each_walk air k yet c l f n at)

    there_follows : (b : Bool) → Rest b → (r : Read Value) (x : Read ℕ) → Follows b r x
        → FollowsEach
        (bind (bind r (λ w q. got (true, with_given i true w) q)) (λ (y : Bool × Value) q. each_read air (suc i) (some || y.0) y.1 c l f n q))
        (bind x (λ j q. each_walk air j true c l f n q))
    there_follows b rest (got v p) (got k q) h = rw (sym h.0, or_true some) (rest true (with_given i true v) k p h.1.0 h.1.1)
    there_follows b rest (got v p) (no s) h = absurd h
    there_follows b rest (no s) (got k q) h = absurd h
    there_follows b rest (no s) (no u) h = h

    option_follows : (b : Bool) (v : Value) (k : ℕ) (p : Part) → v.pdu ≡ t → Known b v k → fits b p ≡ true → Rest b → Rest (after b p) → (r : Read Bool)
        → FollowsEach
        (bind
        (bind r (λ y q. cond y (bind (part_read air v p f n q) (λ w u. got (true, with_given i true w) u)) (got (false, v) q)))
        (λ (y : Bool × Value) q. each_read air (suc i) (some || y.0) y.1 c l f n q))
        (bind r (λ y q. cond y (bind (part_walk air k p f n q) (λ j u. each_walk air j true c l f n u)) (each_walk air k some c l f n q)))
    option_follows b v k p e h z rest next (got true q) = there_follows (after b p) next (part_read air v p f n q) (part_walk air k p f n q) (part_follows b v k f n q e h p z)
    option_follows b v k p e h z rest next (got false q) = rw (or_false some) (rest some v k q e h)
    option_follows b v k p e h z rest next (no s) = refl

  each_follows : (c : ℕ) (l : List Slot) (b : Bool) (i : ℕ) (some : Bool) (v : Value) (k : ℕ) (f : ℕ → ℕ) (n at : ℕ) → v.pdu ≡ t → Known b v k → steady_options b c l ≡ true
      → FollowsEach (each_read air i some v c l f n at) (each_walk air k some c l f n at)
  unfolding each_read each_walk option_read steady_options
  each_follows zero l b i some v k f n at e h z = (refl, (refl, e))
  each_follows (suc c) [] b i some v k f n at e h z = (refl, (refl, e))
  each_follows (suc c) (s ∷ l) b i some v k f n at e h z =
      option_follows i some f n c l b v k s.part e h (both_left (fits b s.part) _ z)
      (λ yet w j q e' h'. each_follows c l b (suc i) yet w j f n q e' h' (both_left (steady_options b c l) _ (both_right (fits b s.part) _ z)))
      (λ yet w j q e' h'. each_follows c l (after b s.part) (suc i) yet w j f n q e' h' (both_right (steady_options b c l) _ (both_right (fits b s.part) _ z)))
      ((flag element.p_bit).read f n at)

  -- ---- the whole

  abbrev FollowsBody : Read Value → Read Unit → Type 0
  FollowsBody (got v p) (got x q) = (p ≡ q) × (v.pdu ≡ t)
  FollowsBody (got v p) (no s) = ⊥
  FollowsBody (no s) (got x q) = ⊥
  FollowsBody (no s) (no u) = s ≡ u

  behind_ends : (r : Read (Bool × Value)) (x : Read Bool) → FollowsEach r x
      → FollowsBody (bind r (λ (y : Bool × Value) q. cond y.0 (got y.1 q) (no (refusal 12)))) (bind x (λ some q. cond some (got tt q) (no (refusal 12))))
  behind_ends (got (y, v) p) (got some q) h = rw h.1.0 (go some)
    where
      go : (some : Bool) → FollowsBody (cond some (got v p) (no (refusal 12))) (cond some (got tt q) (no (refusal 12)))
      go true = (h.0, h.1.1)
      go false = refl
  behind_ends (got y p) (no s) h = absurd h
  behind_ends (no s) (got some q) h = absurd h
  behind_ends (no s) (no u) h = h

  options_follow : (c : ℕ) (l : List Slot) (b : Bool) (v : Value) (k : ℕ) (f : ℕ → ℕ) (n at : ℕ) → v.pdu ≡ t → Known b v k → steady_options b c l ≡ true
      → FollowsBody (options_read air v c l f n at) (options_walk air k c l f n at)
  unfolding options_read options_walk behind_read behind_walk
  options_follow zero l b v k f n at e h z = (refl, e)
  options_follow (suc c) l b v k f n at e h z = go ((flag element.o_bit).read f n at)
    where
      go : (r : Read Bool)
          → FollowsBody
          (bind r (λ y q. cond y (bind (each_read air 0 false v (suc c) l f n q) (λ (x : Bool × Value) u. cond x.0 (got x.1 u) (no (refusal 12)))) (got v q)))
          (bind r (λ y q. cond y (bind (each_walk air k false (suc c) l f n q) (λ some u. cond some (got tt u) (no (refusal 12)))) (got tt q)))
      go (got true q) = behind_ends (each_read air 0 false v (suc c) l f n q) (each_walk air k false (suc c) l f n q) (each_follows (suc c) l b 0 false v k f n q e h z)
      go (got false q) = (refl, e)
      go (no s) = refl

  body_ends : (b : Bool) (f : ℕ → ℕ) (n : ℕ) (c : ℕ) (l : List Slot) → steady_options b c l ≡ true → (r : Read Value) (x : Read ℕ) → Follows b r x
      → FollowsBody (bind r (λ w q. options_read air w c l f n q)) (bind x (λ k q. options_walk air k c l f n q))
  body_ends b f n c l z (got v p) (got k q) h = rw (sym h.0) (options_follow c l b v k f n p h.1.0 h.1.1 z)
  body_ends b f n c l z (got v p) (no s) h = absurd h
  body_ends b f n c l z (no s) (got k q) h = absurd h
  body_ends b f n c l z (no s) (no u) h = h

  body_follows : (f : ℕ → ℕ) (n at : ℕ) → FollowsBody ((body_c air t).read f n at) (body_walk air t f n at)
  unfolding body_walk blank
  body_follows f n at =
      rw (body_row air t f n at)
      (body_ends (after_all false (row_of t).count (row_of t).parts) f n (row_of t).options (row_of t).optional (both_right (steady false (row_of t).count (row_of t).parts) _ (row_steady_lem t))
      (parts_read air (blank t) (row_of t).count (row_of t).parts f n at) (parts_walk air 0 (row_of t).count (row_of t).parts f n at)
      (parts_follow (row_of t).count (row_of t).parts false (blank t) 0 f n at refl (λ y. not_both y) (both_left (steady false (row_of t).count (row_of t).parts) _ (row_steady_lem t))))

  whole_ends : (n : ℕ) (r : Read Value) (x : Read Unit) → FollowsBody r x
      → bind x (λ _ q. cond (eqb q n) (got t q) (no (refusal 13))) ≡ type_in (bind r (λ v p. cond (eqb p n) (got v p) (no (refusal 13))))
  whole_ends n (got v p) (got x q) h = rw (sym h.0) (go (eqb p n))
    where
      go : (b : Bool) → cond b (got t p) (no (refusal 13)) ≡ type_in (cond b (got v p) (no (refusal 13)))
      go true = ap (λ (u : ℕ). got u p) (sym h.1)
      go false = refl
  whole_ends n (got v p) (no s) h = absurd h
  whole_ends n (no s) (got x q) h = absurd h
  whole_ends n (no s) (no u) h = ap (λ (s : Stop). no s) (sym h)

module _ (air : Air) (f : ℕ → ℕ) (n : ℕ) where
  pub walk_is : whole_walk air f n ≡ type_in (whole_of air f n)
  unfolding whole_walk whole_of message_c
  walk_is = go ((header_c air.ss).read f n 0)
    where
      body : (h : ℕ × ℕ) (r : Read Value)
          → type_in (bind r (λ v p. cond (eqb p n) (got v p) (no (refusal 13))))
          ≡ type_in (bind (bind (bind r (λ v q. got (h, v) q)) (λ (x : (ℕ × ℕ) × Value) q. got x.1 q)) (λ v p. cond (eqb p n) (got v p) (no (refusal 13))))
      body h (got v p) = refl
      body h (no s) = refl

      go : (r : Read (ℕ × ℕ))
          → bind r (λ h p. bind (body_walk air h.1 f n p) (λ _ q. cond (eqb q n) (got h.1 q) (no (refusal 13))))
          ≡ type_in (bind (bind (bind r (λ h p. bind ((body_c air h.1).read f n p) (λ v q. got (h, v) q))) (λ (x : (ℕ × ℕ) × Value) q. got x.1 q)) (λ v p. cond (eqb p n) (got v p) (no (refusal 13))))
      go (got h p) = whole_ends air h.1 n ((body_c air h.1).read f n p) (body_walk air h.1 f n p) (body_follows air h.1 f n p) ∙ body h ((body_c air h.1).read f n p)
      go (no s) = refl

-- ---- the loops

module _ (external : Bool) (f : ℕ → ℕ) (n at count i : ℕ) where
  pub addresses_turn : i < count → (p : ℕ) → got tt p ≡ address_walk external f n at → addresses_walk external (count - i) f n at ≡ addresses_walk external (count - (i + 1)) f n p
  unfolding addresses_walk
  addresses_turn h p e = rw (slots_more count [] i h, ← e)

  pub addresses_stop : i < count → (s : Stop) → no s ≡ address_walk external f n at → addresses_walk external (count - i) f n at ≡ no s
  unfolding addresses_walk
  addresses_stop h s e = rw (slots_more count [] i h, ← e)

  pub addresses_end : count ≤ i → addresses_walk external (count - i) f n at ≡ got tt at
  unfolding addresses_walk
  addresses_end h = let z : count - i ≡ 0 = omega arith in rw z

module _ (c : ℕ) (l : List Slot) (i : ℕ) (air : Air) (k : ℕ) (f : ℕ → ℕ) (n at : ℕ) where
  pub walk_turn : i < c → i < length l → (j q : ℕ) → got j q ≡ part_walk air k (slot_here c l i).part f n at
      → parts_walk air k (c - i) (drop i l) f n at ≡ parts_walk air j (c - (i + 1)) (drop (i + 1) l) f n q
  unfolding parts_walk
  walk_turn h m j q e = rw (slots_more c l i h, slots_cut c l i m, ← e)

  pub walk_stop : i < c → i < length l → (s : Stop) → no s ≡ part_walk air k (slot_here c l i).part f n at → parts_walk air k (c - i) (drop i l) f n at ≡ no s
  unfolding parts_walk
  walk_stop h m s e = rw (slots_more c l i h, slots_cut c l i m, ← e)

  walk_end : c ≤ i → parts_walk air k (c - i) (drop i l) f n at ≡ got k at
  unfolding parts_walk
  walk_end h = let z : c - i ≡ 0 = omega arith in rw z

  walk_none : (j : ℕ) → parts_walk air k j [] f n at ≡ got k at
  unfolding parts_walk
  walk_none zero = refl
  walk_none (suc j) = refl

  walk_past : length l ≤ i → parts_walk air k (c - i) (drop i l) f n at ≡ got k at
  walk_past h = rw (drop_of_length-le l h) (walk_none (c - i))

  pub walk_over : (w m : ℕ) → length l ≡ w → m ≡ min c w → m ≤ i → parts_walk air k (c - i) (drop i l) f n at ≡ got k at
  walk_over w m z e h = over c w m i e h walk_end (λ a. walk_past (rw z a))

  module _ (some : Bool) where
    pub option_there : i < c → i < length l → (p j q : ℕ) → got true p ≡ (flag element.p_bit).read f n at → got j q ≡ part_walk air k (slot_here c l i).part f n p
        → each_walk air k some (c - i) (drop i l) f n at ≡ each_walk air j true (c - (i + 1)) (drop (i + 1) l) f n q
    unfolding each_walk
    option_there h m p j q e d = rw (slots_more c l i h, slots_cut c l i m, ← e, ← d)

    pub option_absent : i < c → i < length l → (p : ℕ) → got false p ≡ (flag element.p_bit).read f n at
        → each_walk air k some (c - i) (drop i l) f n at ≡ each_walk air k some (c - (i + 1)) (drop (i + 1) l) f n p
    unfolding each_walk
    option_absent h m p e = rw (slots_more c l i h, slots_cut c l i m, ← e)

    pub flag_stop : i < c → i < length l → (s : Stop) → no s ≡ (flag element.p_bit).read f n at → each_walk air k some (c - i) (drop i l) f n at ≡ no s
    unfolding each_walk
    flag_stop h m s e = rw (slots_more c l i h, slots_cut c l i m, ← e)

    pub option_stop : i < c → i < length l → (p : ℕ) (s : Stop) → got true p ≡ (flag element.p_bit).read f n at → no s ≡ part_walk air k (slot_here c l i).part f n p
        → each_walk air k some (c - i) (drop i l) f n at ≡ no s
    unfolding each_walk
    option_stop h m p s e d = rw (slots_more c l i h, slots_cut c l i m, ← e, ← d)

    options_end : c ≤ i → each_walk air k some (c - i) (drop i l) f n at ≡ got some at
    unfolding each_walk
    options_end h = let z : c - i ≡ 0 = omega arith in rw z

    options_none : (j : ℕ) → each_walk air k some j [] f n at ≡ got some at
    unfolding each_walk
    options_none zero = refl
    options_none (suc j) = refl

    options_past : length l ≤ i → each_walk air k some (c - i) (drop i l) f n at ≡ got some at
    options_past h = rw (drop_of_length-le l h) (options_none (c - i))

    pub options_over : (w m : ℕ) → length l ≡ w → m ≡ min c w → m ≤ i → each_walk air k some (c - i) (drop i l) f n at ≡ got some at
    options_over w m z e h = over c w m i e h options_end (λ a. options_past (rw z a))

-- ---- before the loop over the options

module _ (air : Air) (k c : ℕ) (l : List Slot) (f : ℕ → ℕ) (n at : ℕ) where
  pub walk_optionless : c ≡ 0 → options_walk air k c l f n at ≡ got tt at
  unfolding options_walk
  walk_optionless e = rw e

  pub walk_optional : (c ≡ 0 → ⊥) → options_walk air k c l f n at ≡ bind ((flag element.o_bit).read f n at) (λ b q. cond b (behind_walk air k c l f n q) (got tt q))
  unfolding options_walk
  walk_optional h = go c h
    where
      go : (c : ℕ) → (c ≡ 0 → ⊥) → options_walk air k c l f n at ≡ bind ((flag element.o_bit).read f n at) (λ b q. cond b (behind_walk air k c l f n q) (got tt q))
      go zero h = absurd (h refl)
      go (suc c) h = refl

-- ---- the public answer, by the length

module _ (l : List ℕ) (n : ℕ) where
  pub length_good : 1 ≤ n → n ≤ 4096 → n ≤ 8 * length l → length_ok l n ≡ true
  unfolding length_ok both
  length_good h k m = rw (le-leb 1 n h, le-leb n 4096 k, le-leb n (8 * length l) m)

module _ (air : Air) (l : List ℕ) (n : ℕ) where
  pub type_short : length_ok l n ≡ false → type_in (read_bits air l n) ≡ no (refusal 3)
  unfolding read_bits
  type_short e = rw e

  pub type_walked : length_ok l n ≡ true → type_in (read_bits air l n) ≡ whole_walk air (bit_at l) n
  unfolding read_bits
  type_walked e = rw e (sym (walk_is air (bit_at l) n))

-- ---- what the proofs of walk go by

pub ruleset walk_laws = (pass_past, pass_there, walk_optionless, walk_optional)
