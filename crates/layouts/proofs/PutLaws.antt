-- What the writers of addresses, groups and values leave. Assumes nothing.
use Prim.Native.Nat.{ℕ, ◌+◌, ◌*◌, ◌%◌}
use mathlib.Core.Path.{◌≡◌, refl, sym, ap, ◌∙◌}
use mathlib.Core.Bool.{Bool, false}
use mathlib.Core.List.{List, [], ◌∷◌, ◌++◌, append_assoc}
use native.Mathlib.Omega.{arith}
use lib.ListN.{length, get_or, set, length-append}
use lib.Seq.{sets, length-sets}
use Rattle.profile.specs.Counting.{one}
use Rattle.message.specs.Numbers as place
use Rattle.message.specs.declared.Address.{Address}
use Rattle.message.specs.declared.Group.{Group}
use Rattle.message.specs.declared.Areas.{Areas}
use Rattle.message.specs.declared.Lists.{Lists}
use Rattle.message.specs.declared.Value.{Value}
use Rattle.layouts.specs.Bytes.{number_bytes, rows_bytes}
use Rattle.layouts.specs.Values.{address_bytes, group_bytes, byte_bytes, areas_bytes, first_bytes, more_bytes, type_bytes, lists_bytes, value_bytes}
use Rattle.layouts.proofs.ByteLaws.{sets_append, length_number}

-- ---- a run of stores after a run

-- l became m where the bytes bs were stored from position at on, and p is the next position
record Put (l m : List ℕ) (at p : ℕ) (bs : List ℕ) : Type 0 where
  area : m ≡ sets l at bs
  next : p ≡ at + length bs

first_put : (l m : List ℕ) (at b : ℕ) → m ≡ set l at b → Put l m at (at + 1) (b ∷ [])
first_put l m at b e = record { area = e; next = refl }

then_put : {l m k : List ℕ} {at p q : ℕ} {xs : List ℕ} → Put l m at p xs → (ys : List ℕ) → k ≡ sets m p ys → q ≡ p + length ys → Put l k at q (xs ++ ys)
then_put {l} {m} {k} {at} {p} {q} {xs} w ys e d =
    record {
      area = e ∙ ap (λ (x : List ℕ). sets x p ys) w.area ∙ ap (λ (i : ℕ). sets (sets l at xs) i ys) w.next ∙ sym (sets_append l at xs ys);
      next = omega (arith, w.next, length-append xs ys);
    }

-- such a run keeps the length
pub same_sets : (l m : List ℕ) (at : ℕ) (bs : List ℕ) → m ≡ sets l at bs → length m ≡ length l
same_sets l m at bs e = ap (λ (x : List ℕ). length x) e ∙ length-sets l at bs

-- ---- how many bytes

pub length_address : (a : Address) → length (address_bytes a) ≡ 7
unfolding address_bytes
length_address a =
    omega (arith, length-append (number_bytes 3 a.ssi) (number_bytes 3 a.extension), length_number 3 a.ssi, length_number 3 a.extension)

length_addresses : (l : List Address) → length (rows_bytes address_bytes l) ≡ 7 * length l
unfolding rows_bytes
length_addresses [] = refl
length_addresses (a ∷ l) = omega (arith, length-append (address_bytes a) (rows_bytes address_bytes l), length_address a, length_addresses l)

pub length_group : (g : Group) → length g.addresses ≡ 15 → length (group_bytes g) ≡ 106
unfolding group_bytes
length_group g h = omega (arith, length_addresses g.addresses)

-- ---- the writers

pub address_put : (l m₁ m₂ m₃ : List ℕ) (at : ℕ) (a : Address) → m₁ ≡ set l at a.kind → m₂ ≡ sets m₁ (at + 1) (number_bytes 3 a.ssi)
    → m₃ ≡ sets m₂ (at + 4) (number_bytes 3 a.extension) → m₃ ≡ sets l at (address_bytes a)
unfolding address_bytes
address_put l m₁ m₂ m₃ at a e₁ e₂ e₃ =
    let w : Put l m₂ at (at + 4) (a.kind ∷ number_bytes 3 a.ssi) = then_put (first_put l m₁ at a.kind e₁) (number_bytes 3 a.ssi) e₂ (omega (arith, length_number 3 a.ssi)) in
    (then_put {q = at + 7} w (number_bytes 3 a.extension) e₃ (omega (arith, length_number 3 a.extension))).area

pub group_put : (l m₁ m₂ : List ℕ) (at : ℕ) (g : Group) → m₁ ≡ set l at g.range → m₂ ≡ sets m₁ (at + 1) (rows_bytes address_bytes g.addresses)
    → m₂ ≡ sets l at (group_bytes g)
unfolding group_bytes
group_put l m₁ m₂ at g e₁ e₂ = (then_put (first_put l m₁ at g.range e₁) (rows_bytes address_bytes g.addresses) e₂ refl).area

-- ---- the numbers and the options of a value

module _ (n : List ℕ) (g : List Bool) where
  pub length_first : length (first_bytes n g) ≡ 6
  unfolding first_bytes
  length_first = omega (arith, length-append (number_bytes 2 (get_or n place.identifier 0)) (one (get_or g 0 false) ∷ []), length_number 2 (get_or n place.identifier 0))

  pub length_more : length (more_bytes n g) ≡ 13
  unfolding more_bytes
  length_more =
      let m = get_or n place.mni 0 in
      omega (
        arith,
        length-append (number_bytes 3 m) (get_or n place.calling_area 0 % 256 ∷ get_or n place.called_area 0 % 256 ∷ get_or n place.calling_service 0 % 256 ∷ get_or n place.called_service 0 % 256 ∷ []),
        length_number 3 m,
      )

  pub length_types : length (type_bytes n) ≡ 2
  unfolding type_bytes
  length_types = refl

  module _ (l : List ℕ) where
    pub numbers_put : (m₁ m₂ m₃ m₄ m : List ℕ) → m₁ ≡ set l 116 (get_or n place.result 0 % 256) → m₂ ≡ set m₁ 117 (get_or n place.reason 0 % 256)
        → m₃ ≡ set m₂ 118 (get_or n place.cause 0 % 256) → m₄ ≡ sets m₃ 119 (number_bytes 2 (get_or n place.identifier 0)) → m ≡ set m₄ 121 (one (get_or g 0 false))
        → m ≡ sets l 116 (first_bytes n g)
    unfolding first_bytes
    numbers_put m₁ m₂ m₃ m₄ m e₁ e₂ e₃ e₄ e =
        let i = number_bytes 2 (get_or n place.identifier 0) in
        let w₁ : Put l m₁ 116 117 _ = first_put l m₁ 116 _ e₁ in
        let w₂ : Put l m₂ 116 118 _ = then_put w₁ (get_or n place.reason 0 % 256 ∷ []) e₂ refl in
        let w₃ : Put l m₃ 116 119 _ = then_put w₂ (get_or n place.cause 0 % 256 ∷ []) e₃ refl in
        let w₄ : Put l m₄ 116 121 _ = then_put w₃ i e₄ (omega (arith, length_number 2 (get_or n place.identifier 0))) in
        (then_put {q = 122} w₄ (one (get_or g 0 false) ∷ []) e refl).area ∙ simp append_assoc

    pub more_put : (m₁ m₂ m₃ m₄ m₅ m₆ m₇ m₈ m₉ m₁₀ m : List ℕ) → m₁ ≡ set l 228 (one (get_or g 1 false)) → m₂ ≡ set m₁ 229 (one (get_or g 2 false))
        → m₃ ≡ set m₂ 230 (one (get_or g 3 false)) → m₄ ≡ set m₃ 231 (one (get_or g 4 false)) → m₅ ≡ set m₄ 232 (one (get_or g 5 false))
        → m₆ ≡ set m₅ 233 (one (get_or g 6 false)) → m₇ ≡ sets m₆ 234 (number_bytes 3 (get_or n place.mni 0)) → m₈ ≡ set m₇ 237 (get_or n place.calling_area 0 % 256)
        → m₉ ≡ set m₈ 238 (get_or n place.called_area 0 % 256) → m₁₀ ≡ set m₉ 239 (get_or n place.calling_service 0 % 256) → m ≡ set m₁₀ 240 (get_or n place.called_service 0 % 256)
        → m ≡ sets l 228 (more_bytes n g)
    unfolding more_bytes
    more_put m₁ m₂ m₃ m₄ m₅ m₆ m₇ m₈ m₉ m₁₀ m e₁ e₂ e₃ e₄ e₅ e₆ e₇ e₈ e₉ e₁₀ e =
        let w₁ : Put l m₁ 228 229 _ = first_put l m₁ 228 _ e₁ in
        let w₂ : Put l m₂ 228 230 _ = then_put w₁ (one (get_or g 2 false) ∷ []) e₂ refl in
        let w₃ : Put l m₃ 228 231 _ = then_put w₂ (one (get_or g 3 false) ∷ []) e₃ refl in
        let w₄ : Put l m₄ 228 232 _ = then_put w₃ (one (get_or g 4 false) ∷ []) e₄ refl in
        let w₅ : Put l m₅ 228 233 _ = then_put w₄ (one (get_or g 5 false) ∷ []) e₅ refl in
        let w₆ : Put l m₆ 228 234 _ = then_put w₅ (one (get_or g 6 false) ∷ []) e₆ refl in
        let w₇ : Put l m₇ 228 237 _ = then_put w₆ (number_bytes 3 (get_or n place.mni 0)) e₇ (omega (arith, length_number 3 (get_or n place.mni 0))) in
        let w₈ : Put l m₈ 228 238 _ = then_put w₇ (get_or n place.calling_area 0 % 256 ∷ []) e₈ refl in
        let w₉ : Put l m₉ 228 239 _ = then_put w₈ (get_or n place.called_area 0 % 256 ∷ []) e₉ refl in
        let w₁₀ : Put l m₁₀ 228 240 _ = then_put w₉ (get_or n place.calling_service 0 % 256 ∷ []) e₁₀ refl in
        (then_put {q = 241} w₁₀ (get_or n place.called_service 0 % 256 ∷ []) e refl).area ∙ simp append_assoc

  module _ (l m₁ m : List ℕ) where
    pub types_put : m₁ ≡ set l 241 (get_or n place.activation_type 0 % 256) → m ≡ set m₁ 242 (get_or n place.interception_type 0 % 256) → m ≡ sets l 241 (type_bytes n)
    unfolding type_bytes
    types_put e₁ e = let w₁ : Put l m₁ 241 242 _ = first_put l m₁ 241 _ e₁ in (then_put {q = 243} w₁ (get_or n place.interception_type 0 % 256 ∷ []) e refl).area

-- ---- the lists

pub areas_put : (l m₁ m : List ℕ) (at : ℕ) (a : Areas) → m₁ ≡ set l at a.range → m ≡ sets m₁ (at + 1) (rows_bytes byte_bytes a.areas) → m ≡ sets l at (areas_bytes a)
unfolding areas_bytes
areas_put l m₁ m at a e₁ e = (then_put (first_put l m₁ at a.range e₁) (rows_bytes byte_bytes a.areas) e refl).area

pub lists_put : (x : Lists) → length x.sources.addresses ≡ 15 → length x.destinations.addresses ≡ 15 → (l m₁ m₂ m : List ℕ)
    → m₁ ≡ sets l 243 (group_bytes x.sources) → m₂ ≡ sets m₁ 349 (group_bytes x.destinations) → m ≡ sets m₂ 455 (areas_bytes x.areas) → m ≡ sets l 243 (lists_bytes x)
unfolding lists_bytes
lists_put x s d l m₁ m₂ m e₁ e₂ e =
    let w₁ : Put l m₁ 243 349 (group_bytes x.sources) = record { area = e₁; next = omega (arith, length_group x.sources s) } in
    let w₂ : Put l m₂ 243 455 _ = then_put w₁ (group_bytes x.destinations) e₂ (omega (arith, length_group x.destinations d)) in
    (then_put w₂ (areas_bytes x.areas) e refl).area ∙ simp append_assoc

-- ---- a value

module _ (v : Value) (users : length v.users.addresses ≡ 15) (dispatchers : length v.dispatchers.addresses ≡ 15) (l m₁ m₂ m₃ m₄ m₅ m₆ m₇ m₈ m : List ℕ) where
  pub value_put : m₁ ≡ set l 0 v.pdu → m₂ ≡ sets m₁ 1 (group_bytes v.users) → m₃ ≡ set m₂ 107 (one v.masked)
      → m₄ ≡ sets m₃ 108 (number_bytes 8 v.mask) → m₅ ≡ sets m₄ 116 (first_bytes v.numbers v.given) → m₆ ≡ sets m₅ 122 (group_bytes v.dispatchers)
      → m₇ ≡ sets m₆ 228 (more_bytes v.numbers v.given) → m₈ ≡ sets m₇ 241 (type_bytes v.numbers) → m ≡ sets m₈ 243 (lists_bytes v.lists) → m ≡ sets l 0 (value_bytes v)
  unfolding value_bytes
  value_put e₁ e₂ e₃ e₄ e₅ e₆ e₇ e₈ e =
      let n = v.numbers in
      let g = v.given in
      let w₁ : Put l m₁ 0 1 _ = first_put l m₁ 0 v.pdu e₁ in
      let w₂ : Put l m₂ 0 107 _ = then_put w₁ (group_bytes v.users) e₂ (omega (arith, length_group v.users users)) in
      let w₃ : Put l m₃ 0 108 _ = then_put w₂ (one v.masked ∷ []) e₃ refl in
      let w₄ : Put l m₄ 0 116 _ = then_put w₃ (number_bytes 8 v.mask) e₄ (omega (arith, length_number 8 v.mask)) in
      let w₅ : Put l m₅ 0 122 _ = then_put w₄ (first_bytes n g) e₅ (omega (arith, length_first n g)) in
      let w₆ : Put l m₆ 0 228 _ = then_put w₅ (group_bytes v.dispatchers) e₆ (omega (arith, length_group v.dispatchers dispatchers)) in
      let w₇ : Put l m₇ 0 241 _ = then_put w₆ (more_bytes n g) e₇ (omega (arith, length_more n g)) in
      let w₈ : Put l m₈ 0 243 _ = then_put w₇ (type_bytes n) e₈ (omega (arith, length_types n g)) in
      (then_put w₈ (lists_bytes v.lists) e refl).area ∙ simp append_assoc
