-- A value's bytes where one thing in the value is changed: just its own bytes change. Assumes nothing.
use Prim.Native.Nat.{ℕ, zero, suc, ◌+◌, ◌*◌, ◌≤◌, ◌<◌}
use mathlib.Core.Path.{◌≡◌, refl, sym, ap, ◌∙◌, subst}
use mathlib.Core.Bool.{Bool, false}
use mathlib.Core.List.{List, [], ◌∷◌, ◌++◌, append_assoc, append-nil}
use native.Mathlib.Omega.{arith}
use lib.ListN.{length, get_or, drop, set, length-append, length-set}
use lib.Seq.{sets, set-append_left, drop_at}
use Rattle.profile.specs.Counting.{one}
use Rattle.message.specs.Numbers as place
use Rattle.message.specs.Groups.{with_address}
use Rattle.message.specs.Values.{with_number, with_users, with_mask, with_dispatchers, with_given, with_sources, with_destinations, with_areas}
use Rattle.message.specs.declared.Address.{Address}
use Rattle.message.specs.declared.Group.{Group}
use Rattle.message.specs.declared.Areas.{Areas}
use Rattle.message.specs.declared.Value.{Value}
use Rattle.layouts.specs.Bytes.{number_bytes, rows_bytes}
use Rattle.layouts.specs.Values.{address_bytes, group_bytes, byte_from, byte_bytes, areas_bytes, first_bytes, more_bytes, type_bytes, lists_bytes, value_bytes}
use Rattle.layouts.proofs.ByteLaws.{length_number, sets_all}
use Rattle.layouts.proofs.PutLaws.{length_address, length_group, length_first, length_more, length_types}
use Rattle.layouts.proofs.RowLaws.{rows_length}
use Rattle.layouts.proofs.FitLaws.{ValueFits}

-- ---- a run of stores inside a list

module _ {A : Type 0} where
  sets_left : (B C bs : List A) (j : ℕ) → j + length bs ≤ length B → sets (B ++ C) j bs ≡ sets B j bs ++ C
  sets_left B C [] j h = refl
  sets_left B C (b ∷ bs) j h =
      ap (λ (m : List A). sets m (suc j) bs) (set-append_left B C j b (omega arith)) ∙ sets_left (set B j b) C bs (suc j) (omega (arith, length-set B j b))

  sets_cons : (x : A) (l bs : List A) (k : ℕ) → sets (x ∷ l) (suc k) bs ≡ x ∷ sets l k bs
  sets_cons x l [] k = refl
  sets_cons x l (b ∷ bs) k = sets_cons x (set l k b) bs (suc k)

  sets_past : (B l bs : List A) (o j : ℕ) → length B ≡ o → sets (B ++ l) (o + j) bs ≡ B ++ sets l j bs
  sets_past [] l bs o j e = let z : o + j ≡ j = omega (arith, e) in ap (λ (k : ℕ). sets l k bs) z
  sets_past (x ∷ B) l bs o j e =
      let z : o + j ≡ suc (length B + j) = omega (arith, e) in
      ap (λ (k : ℕ). sets (x ∷ (B ++ l)) k bs) z ∙ sets_cons x (B ++ l) bs (length B + j) ∙ ap (λ (m : List A). x ∷ m) (sets_past B l bs (length B) j refl)

  inside : (B M C bs : List A) (o j : ℕ) → length B ≡ o → j + length bs ≤ length M → sets (B ++ (M ++ C)) (o + j) bs ≡ B ++ (sets M j bs ++ C)
  inside B M C bs o j e h = sets_past B (M ++ C) bs o j e ∙ ap (λ (m : List A). B ++ m) (sets_left M C bs j h)

-- thing i of things of k bytes
pub rows_set : {A : Type 0} (f : A → List ℕ) (k : ℕ) → ((a : A) → length (f a) ≡ k) → (l : List A) (i : ℕ) (x : A) → i < length l
    → rows_bytes f (set l i x) ≡ sets (rows_bytes f l) (k * i) (f x)
unfolding rows_bytes
rows_set f k size [] i x h = absurd (omega arith)
rows_set f k size (a ∷ l) zero x h =
    let z : k * 0 ≡ 0 = omega arith in
    sym (ap (λ (n : ℕ). sets (f a ++ rows_bytes f l) n (f x)) z ∙ sets_left (f a) (rows_bytes f l) (f x) 0 (omega (arith, size a, size x))
    ∙ ap (λ (m : List ℕ). m ++ rows_bytes f l) (sets_all (f x) (f a) (size x ∙ sym (size a))))
rows_set f k size (a ∷ l) (suc i) x h =
    let z : k * suc i ≡ k + k * i = omega arith in
    ap (λ (m : List ℕ). f a ++ m) (rows_set f k size l i x (omega arith))
    ∙ sym (ap (λ (n : ℕ). sets (f a ++ rows_bytes f l) n (f x)) z ∙ sets_past (f a) (rows_bytes f l) (f x) k (k * i) (size a))

-- ---- the nine runs of a value's bytes

abbrev shape : ℕ → List ℕ → List ℕ → List ℕ → List ℕ → List ℕ → List ℕ → List ℕ → List ℕ → List ℕ → List ℕ
shape p U K F D M T S E R = p ∷ (U ++ (K ++ (F ++ (D ++ (M ++ (T ++ (S ++ (E ++ R))))))))

module _ (p : ℕ) (U K F D M T S E R : List ℕ) (u : length U ≡ 106) (k : length K ≡ 9) (f : length F ≡ 6) (d : length D ≡ 106) (m : length M ≡ 13)
    (t : length T ≡ 2) (s : length S ≡ 106) (e : length E ≡ 106) (j : ℕ) (bs : List ℕ) where
  at_users : j + length bs ≤ 106 → sets (shape p U K F D M T S E R) (1 + j) bs ≡ shape p (sets U j bs) K F D M T S E R
  at_users h = inside (p ∷ []) U (K ++ (F ++ (D ++ (M ++ (T ++ (S ++ (E ++ R))))))) bs 1 j refl (omega arith)

  at_mask : j + length bs ≤ 9 → sets (shape p U K F D M T S E R) (107 + j) bs ≡ shape p U (sets K j bs) F D M T S E R
  at_mask h = inside (p ∷ U) K (F ++ (D ++ (M ++ (T ++ (S ++ (E ++ R)))))) bs 107 j (omega arith) (omega arith)

  -- what goes before a run, and what comes after it
  apart : (B N C : List ℕ) (o : ℕ) → length B ≡ o → j + length bs ≤ length N → (whole new : List ℕ) → whole ≡ B ++ (N ++ C) → new ≡ B ++ (sets N j bs ++ C)
      → sets whole (o + j) bs ≡ new
  apart B N C o z h whole new a b = ap (λ (l : List ℕ). sets l (o + j) bs) a ∙ inside B N C bs o j z h ∙ sym b

  at_first : j + length bs ≤ 6 → sets (shape p U K F D M T S E R) (116 + j) bs ≡ shape p U K (sets F j bs) D M T S E R
  at_first h =
      apart (p ∷ (U ++ K)) F (D ++ (M ++ (T ++ (S ++ (E ++ R))))) 116 (omega (arith, length-append U K)) (omega arith) _ _ (simp append_assoc) (simp append_assoc)

  at_dispatchers : j + length bs ≤ 106 → sets (shape p U K F D M T S E R) (122 + j) bs ≡ shape p U K F (sets D j bs) M T S E R
  at_dispatchers h =
      apart (p ∷ (U ++ (K ++ F))) D (M ++ (T ++ (S ++ (E ++ R)))) 122 (omega (arith, length-append U (K ++ F), length-append K F)) (omega arith) _ _
      (simp append_assoc) (simp append_assoc)

  at_more : j + length bs ≤ 13 → sets (shape p U K F D M T S E R) (228 + j) bs ≡ shape p U K F D (sets M j bs) T S E R
  at_more h =
      apart (p ∷ (U ++ (K ++ (F ++ D)))) M (T ++ (S ++ (E ++ R))) 228
      (omega (arith, length-append U (K ++ (F ++ D)), length-append K (F ++ D), length-append F D)) (omega arith) _ _ (simp append_assoc) (simp append_assoc)

  at_types : j + length bs ≤ 2 → sets (shape p U K F D M T S E R) (241 + j) bs ≡ shape p U K F D M (sets T j bs) S E R
  at_types h =
      apart (p ∷ (U ++ (K ++ (F ++ (D ++ M))))) T (S ++ (E ++ R)) 241
      (omega (arith, length-append U (K ++ (F ++ (D ++ M))), length-append K (F ++ (D ++ M)), length-append F (D ++ M), length-append D M)) (omega arith) _ _
      (simp append_assoc) (simp append_assoc)

  abbrev before_lists : List ℕ
  before_lists = p ∷ (U ++ (K ++ (F ++ (D ++ (M ++ T)))))

  length_before : length before_lists ≡ 243
  length_before =
      omega (arith, length-append U (K ++ (F ++ (D ++ (M ++ T)))), length-append K (F ++ (D ++ (M ++ T))), length-append F (D ++ (M ++ T)), length-append D (M ++ T), length-append M T)

  at_sources : j + length bs ≤ 106 → sets (shape p U K F D M T S E R) (243 + j) bs ≡ shape p U K F D M T (sets S j bs) E R
  at_sources h = apart before_lists S (E ++ R) 243 length_before (omega arith) _ _ (simp append_assoc) (simp append_assoc)

  at_destinations : j + length bs ≤ 106 → sets (shape p U K F D M T S E R) (349 + j) bs ≡ shape p U K F D M T S (sets E j bs) R
  at_destinations h =
      apart (before_lists ++ S) E R 349 (omega (arith, length-append before_lists S, length_before)) (omega arith) _ _ (simp append_assoc) (simp append_assoc)

  at_areas : j + length bs ≤ length R → sets (shape p U K F D M T S E R) (455 + j) bs ≡ shape p U K F D M T S E (sets R j bs)
  at_areas h =
      apart (before_lists ++ (S ++ E)) R [] 455 (omega (arith, length-append before_lists (S ++ E), length-append S E, length_before)) h _ _
      (simp (append_assoc, append-nil)) (simp (append_assoc, append-nil))

-- ---- lists of a known length

-- the n values of a function from 0 on
abbrev tabulate : {A : Type 0} → ℕ → (ℕ → A) → List A
tabulate zero g = []
tabulate (suc n) g = g 0 ∷ tabulate n (λ i. g (suc i))

each_there : {A : Type 0} (d : A) (n : ℕ) (l : List A) → length l ≡ n → tabulate n (λ i. get_or l i d) ≡ l
each_there {A} d zero [] e = refl
each_there {A} d zero (x ∷ l) e = absurd (omega (arith, e))
each_there {A} d (suc n) [] e = absurd (omega (arith, e))
each_there {A} d (suc n) (x ∷ l) e = ap (λ (m : List A). x ∷ m) (each_there d n l (omega (arith, e)))

-- ---- numbers

length_areas : (x : Areas) → length x.areas ≡ 15 → length (areas_bytes x) ≡ 16
unfolding areas_bytes
length_areas x h = omega (arith, rows_length byte_from byte_bytes 1 (λ a. refl) x.areas, h)

bytes_shape : (w : Value)
    → value_bytes w
    ≡ shape w.pdu (group_bytes w.users) (one w.masked ∷ number_bytes 8 w.mask) (first_bytes w.numbers w.given) (group_bytes w.dispatchers)
    (more_bytes w.numbers w.given) (type_bytes w.numbers) (group_bytes w.lists.sources) (group_bytes w.lists.destinations) (areas_bytes w.lists.areas)
unfolding value_bytes lists_bytes
bytes_shape w = simp append_assoc

module _ (v : Value) (fits : ValueFits v) where
  abbrev U : List ℕ
  U = group_bytes v.users

  abbrev K : List ℕ
  K = one v.masked ∷ number_bytes 8 v.mask

  abbrev F : List ℕ
  F = first_bytes v.numbers v.given

  abbrev D : List ℕ
  D = group_bytes v.dispatchers

  abbrev M : List ℕ
  M = more_bytes v.numbers v.given

  abbrev T : List ℕ
  T = type_bytes v.numbers

  abbrev S : List ℕ
  S = group_bytes v.lists.sources

  abbrev E : List ℕ
  E = group_bytes v.lists.destinations

  abbrev R : List ℕ
  R = areas_bytes v.lists.areas

  u : length U ≡ 106
  u = length_group v.users fits.users.places

  k : length K ≡ 9
  k = ap suc (length_number 8 v.mask)

  f : length F ≡ 6
  f = length_first v.numbers v.given

  d : length D ≡ 106
  d = length_group v.dispatchers fits.dispatchers.places

  m : length M ≡ 13
  m = length_more v.numbers v.given

  t : length T ≡ 2
  t = length_types v.numbers v.given

  s : length S ≡ 106
  s = length_group v.lists.sources fits.lists.sources.places

  e : length E ≡ 106
  e = length_group v.lists.destinations fits.lists.destinations.places

  r : length R ≡ 16
  r = length_areas v.lists.areas fits.lists.areas

  module _ (j : ℕ) (bs : List ℕ) where
    -- a run of stores in the run that begins at byte o
    by_whole : (o : ℕ) (new : List ℕ) → sets (shape v.pdu U K F D M T S E R) (o + j) bs ≡ new → (w : List ℕ) → w ≡ new → w ≡ sets (value_bytes v) (o + j) bs
    by_whole o new h w is = is ∙ sym (ap (λ (l : List ℕ). sets l (o + j) bs) (bytes_shape v) ∙ h)

    pub users_bytes : (g : Group) → group_bytes g ≡ sets U j bs → j + length bs ≤ 106 → value_bytes (with_users g v) ≡ sets (value_bytes v) (1 + j) bs
    users_bytes g is h = by_whole 1 _ (at_users v.pdu U K F D M T S E R u k f d m t s e j bs h) _ (bytes_shape (with_users g v) ∙ ap (λ (l : List ℕ). shape v.pdu l K F D M T S E R) is)

    pub mask_bytes : (b : Bool) (n : ℕ) → one b ∷ number_bytes 8 n ≡ sets K j bs → j + length bs ≤ 9 → value_bytes (with_mask b n v) ≡ sets (value_bytes v) (107 + j) bs
    mask_bytes b n is h =
        by_whole 107 _ (at_mask v.pdu U K F D M T S E R u k f d m t s e j bs h) _
        (bytes_shape (with_mask b n v) ∙ ap (λ (l : List ℕ). shape v.pdu U l F D M T S E R) is)

    pub dispatchers_bytes : (g : Group) → group_bytes g ≡ sets D j bs → j + length bs ≤ 106 → value_bytes (with_dispatchers g v) ≡ sets (value_bytes v) (122 + j) bs
    dispatchers_bytes g is h = by_whole 122 _ (at_dispatchers v.pdu U K F D M T S E R u k f d m t s e j bs h) _ (bytes_shape (with_dispatchers g v) ∙ ap (λ (l : List ℕ). shape v.pdu U K F l M T S E R) is)

    pub sources_bytes : (g : Group) → group_bytes g ≡ sets S j bs → j + length bs ≤ 106 → value_bytes (with_sources g v) ≡ sets (value_bytes v) (243 + j) bs
    sources_bytes g is h = by_whole 243 _ (at_sources v.pdu U K F D M T S E R u k f d m t s e j bs h) _ (bytes_shape (with_sources g v) ∙ ap (λ (l : List ℕ). shape v.pdu U K F D M T l E R) is)

    pub destinations_bytes : (g : Group) → group_bytes g ≡ sets E j bs → j + length bs ≤ 106 → value_bytes (with_destinations g v) ≡ sets (value_bytes v) (349 + j) bs
    destinations_bytes g is h = by_whole 349 _ (at_destinations v.pdu U K F D M T S E R u k f d m t s e j bs h) _ (bytes_shape (with_destinations g v) ∙ ap (λ (l : List ℕ). shape v.pdu U K F D M T S l R) is)

    pub areas_bytes_lem : (x : Areas) → areas_bytes x ≡ sets R j bs → j + length bs ≤ 16 → value_bytes (with_areas x v) ≡ sets (value_bytes v) (455 + j) bs
    areas_bytes_lem x is h = by_whole 455 _ (at_areas v.pdu U K F D M T S E R u k f d m t s e j bs (omega (arith, r, h))) _ (bytes_shape (with_areas x v) ∙ ap (λ (l : List ℕ). shape v.pdu U K F D M T S E l) is)

    -- one number or option is other, in one of three runs
    module _ (n : List ℕ) (g : List Bool) where
      abbrev other : Value
      other = record { pdu = v.pdu; numbers = n; users = v.users; masked = v.masked; mask = v.mask; given = g; dispatchers = v.dispatchers; lists = v.lists }

      runs : {F₁ M₁ T₁ : List ℕ} → first_bytes n g ≡ F₁ → more_bytes n g ≡ M₁ → type_bytes n ≡ T₁
          → shape v.pdu U K (first_bytes n g) D (more_bytes n g) (type_bytes n) S E R ≡ shape v.pdu U K F₁ D M₁ T₁ S E R
      runs {F₁} {M₁} a b c =
          ap (λ (l : List ℕ). shape v.pdu U K l D (more_bytes n g) (type_bytes n) S E R) a
          ∙ ap (λ (l : List ℕ). shape v.pdu U K F₁ D l (type_bytes n) S E R) b
          ∙ ap (λ (l : List ℕ). shape v.pdu U K F₁ D M₁ l S E R) c

      in_first : j + length bs ≤ 6 → first_bytes n g ≡ sets F j bs → more_bytes n g ≡ M → type_bytes n ≡ T → value_bytes other ≡ sets (value_bytes v) (116 + j) bs
      in_first h a b c = by_whole 116 _ (at_first v.pdu U K F D M T S E R u k f d m t s e j bs h) _
          (bytes_shape other ∙ runs a b c)

      in_more : j + length bs ≤ 13 → first_bytes n g ≡ F → more_bytes n g ≡ sets M j bs → type_bytes n ≡ T → value_bytes other ≡ sets (value_bytes v) (228 + j) bs
      in_more h a b c = by_whole 228 _ (at_more v.pdu U K F D M T S E R u k f d m t s e j bs h) _
          (bytes_shape other ∙ runs a b c)

      in_types : j + length bs ≤ 2 → first_bytes n g ≡ F → more_bytes n g ≡ M → type_bytes n ≡ sets T j bs → value_bytes other ≡ sets (value_bytes v) (241 + j) bs
      in_types h a b c = by_whole 241 _ (at_types v.pdu U K F D M T S E R u k f d m t s e j bs h) _
          (bytes_shape other ∙ runs a b c)

  -- a number's bytes, at its place
  module _ (x : ℕ) where
    abbrev Firsts : ℕ → ℕ → ℕ → List ℕ → Type 0
    Firsts k j c n =
        (first_bytes (set n k x) v.given ≡ sets (first_bytes n v.given) j (number_bytes c x))
        × ((more_bytes (set n k x) v.given ≡ more_bytes n v.given) × (type_bytes (set n k x) ≡ type_bytes n))

    abbrev Mores : ℕ → ℕ → ℕ → List ℕ → Type 0
    Mores k j c n =
        (first_bytes (set n k x) v.given ≡ first_bytes n v.given)
        × ((more_bytes (set n k x) v.given ≡ sets (more_bytes n v.given) j (number_bytes c x)) × (type_bytes (set n k x) ≡ type_bytes n))

    abbrev Types : ℕ → ℕ → ℕ → List ℕ → Type 0
    Types k j c n =
        (first_bytes (set n k x) v.given ≡ first_bytes n v.given)
        × ((more_bytes (set n k x) v.given ≡ more_bytes n v.given) × (type_bytes (set n k x) ≡ sets (type_bytes n) j (number_bytes c x)))

    -- what holds of twelve numbers, whatever they are
    any_twelve : (P : List ℕ → Type 0) → ((g : ℕ → ℕ) → P (tabulate 12 g)) → P v.numbers
    any_twelve P h = subst P (each_there 0 12 v.numbers fits.numbers.long) (h (λ i. get_or v.numbers i 0))

    of_first : (k j c : ℕ) → j + c ≤ 6 → Firsts k j c v.numbers → value_bytes (with_number k x v) ≡ sets (value_bytes v) (116 + j) (number_bytes c x)
    of_first k j c h e = in_first j (number_bytes c x) (set v.numbers k x) v.given (omega (arith, length_number c x)) e.0 e.1.0 e.1.1

    of_more : (k j c : ℕ) → j + c ≤ 13 → Mores k j c v.numbers → value_bytes (with_number k x v) ≡ sets (value_bytes v) (228 + j) (number_bytes c x)
    of_more k j c h e = in_more j (number_bytes c x) (set v.numbers k x) v.given (omega (arith, length_number c x)) e.0 e.1.0 e.1.1

    of_types : (k j c : ℕ) → j + c ≤ 2 → Types k j c v.numbers → value_bytes (with_number k x v) ≡ sets (value_bytes v) (241 + j) (number_bytes c x)
    of_types k j c h e = in_types j (number_bytes c x) (set v.numbers k x) v.given (omega (arith, length_number c x)) e.0 e.1.0 e.1.1

    pub identifier_bytes : value_bytes (with_number place.identifier x v) ≡ sets (value_bytes v) 119 (number_bytes 2 x)
    unfolding first_bytes more_bytes type_bytes number_bytes
    identifier_bytes = of_first place.identifier 3 2 (omega arith) (any_twelve (Firsts place.identifier 3 2) (λ g. (refl, (refl, refl))))

    pub cause_bytes : value_bytes (with_number place.cause x v) ≡ sets (value_bytes v) 118 (number_bytes 1 x)
    unfolding first_bytes more_bytes type_bytes number_bytes
    cause_bytes = of_first place.cause 2 1 (omega arith) (any_twelve (Firsts place.cause 2 1) (λ g. (refl, (refl, refl))))

    pub result_bytes : value_bytes (with_number place.result x v) ≡ sets (value_bytes v) 116 (number_bytes 1 x)
    unfolding first_bytes more_bytes type_bytes number_bytes
    result_bytes = of_first place.result 0 1 (omega arith) (any_twelve (Firsts place.result 0 1) (λ g. (refl, (refl, refl))))

    pub reason_bytes : value_bytes (with_number place.reason x v) ≡ sets (value_bytes v) 117 (number_bytes 1 x)
    unfolding first_bytes more_bytes type_bytes number_bytes
    reason_bytes = of_first place.reason 1 1 (omega arith) (any_twelve (Firsts place.reason 1 1) (λ g. (refl, (refl, refl))))

    pub mni_bytes : value_bytes (with_number place.mni x v) ≡ sets (value_bytes v) 234 (number_bytes 3 x)
    unfolding first_bytes more_bytes type_bytes number_bytes
    mni_bytes = of_more place.mni 6 3 (omega arith) (any_twelve (Mores place.mni 6 3) (λ g. (refl, (refl, refl))))

    pub calling_area_bytes : value_bytes (with_number place.calling_area x v) ≡ sets (value_bytes v) 237 (number_bytes 1 x)
    unfolding first_bytes more_bytes type_bytes number_bytes
    calling_area_bytes = of_more place.calling_area 9 1 (omega arith) (any_twelve (Mores place.calling_area 9 1) (λ g. (refl, (refl, refl))))

    pub called_area_bytes : value_bytes (with_number place.called_area x v) ≡ sets (value_bytes v) 238 (number_bytes 1 x)
    unfolding first_bytes more_bytes type_bytes number_bytes
    called_area_bytes = of_more place.called_area 10 1 (omega arith) (any_twelve (Mores place.called_area 10 1) (λ g. (refl, (refl, refl))))

    pub calling_service_bytes : value_bytes (with_number place.calling_service x v) ≡ sets (value_bytes v) 239 (number_bytes 1 x)
    unfolding first_bytes more_bytes type_bytes number_bytes
    calling_service_bytes = of_more place.calling_service 11 1 (omega arith) (any_twelve (Mores place.calling_service 11 1) (λ g. (refl, (refl, refl))))

    pub called_service_bytes : value_bytes (with_number place.called_service x v) ≡ sets (value_bytes v) 240 (number_bytes 1 x)
    unfolding first_bytes more_bytes type_bytes number_bytes
    called_service_bytes = of_more place.called_service 12 1 (omega arith) (any_twelve (Mores place.called_service 12 1) (λ g. (refl, (refl, refl))))

    pub activation_bytes : value_bytes (with_number place.activation_type x v) ≡ sets (value_bytes v) 241 (number_bytes 1 x)
    unfolding first_bytes more_bytes type_bytes number_bytes
    activation_bytes = of_types place.activation_type 0 1 (omega arith) (any_twelve (Types place.activation_type 0 1) (λ g. (refl, (refl, refl))))

    pub interception_bytes : value_bytes (with_number place.interception_type x v) ≡ sets (value_bytes v) 242 (number_bytes 1 x)
    unfolding first_bytes more_bytes type_bytes number_bytes
    interception_bytes = of_types place.interception_type 1 1 (omega arith) (any_twelve (Types place.interception_type 1 1) (λ g. (refl, (refl, refl))))

  -- ---- options

  module _ (b : Bool) where
    any_seven : (P : List Bool → Type 0) → ((g : ℕ → Bool) → P (tabulate 7 g)) → P v.given
    any_seven P h = subst P (each_there false 7 v.given fits.given) (h (λ i. get_or v.given i false))

    abbrev GivenFirst : List Bool → Type 0
    GivenFirst g = (first_bytes v.numbers (set g 0 b) ≡ sets (first_bytes v.numbers g) 5 (one b ∷ [])) × (more_bytes v.numbers (set g 0 b) ≡ more_bytes v.numbers g)

    abbrev GivenMore : ℕ → List Bool → Type 0
    GivenMore i g =
        (first_bytes v.numbers (set g (suc i) b) ≡ first_bytes v.numbers g) × (more_bytes v.numbers (set g (suc i) b) ≡ sets (more_bytes v.numbers g) i (one b ∷ []))

    -- the first of a row stands apart from the others
    pub first_given : value_bytes (with_given 0 b v) ≡ set (value_bytes v) 121 (one b)
    unfolding first_bytes more_bytes number_bytes
    first_given =
        let e = any_seven GivenFirst (λ g. (refl, refl)) in
        in_first 5 (one b ∷ []) v.numbers (set v.given 0 b) (omega arith) e.0 e.1 refl

    given_case : (i : ℕ) → i < 6 → GivenMore i v.given → value_bytes (with_given (suc i) b v) ≡ set (value_bytes v) (228 + i) (one b)
    given_case i h e = in_more i (one b ∷ []) v.numbers (set v.given (suc i) b) (omega arith) e.0 e.1 refl

    pub more_given : (i : ℕ) → i < 6 → value_bytes (with_given (suc i) b v) ≡ set (value_bytes v) (228 + i) (one b)
    unfolding first_bytes more_bytes number_bytes
    more_given zero h = given_case 0 h (any_seven (GivenMore 0) (λ g. (refl, refl)))
    more_given (suc zero) h = given_case 1 h (any_seven (GivenMore 1) (λ g. (refl, refl)))
    more_given (suc (suc zero)) h = given_case 2 h (any_seven (GivenMore 2) (λ g. (refl, refl)))
    more_given (suc (suc (suc zero))) h = given_case 3 h (any_seven (GivenMore 3) (λ g. (refl, refl)))
    more_given (suc (suc (suc (suc zero)))) h = given_case 4 h (any_seven (GivenMore 4) (λ g. (refl, refl)))
    more_given (suc (suc (suc (suc (suc zero))))) h = given_case 5 h (any_seven (GivenMore 5) (λ g. (refl, refl)))
    more_given (suc (suc (suc (suc (suc (suc i)))))) h = absurd (omega arith)

  -- ---- one address of a group

  address_of_lem : (g : Group) (i : ℕ) (x : Address) → length g.addresses ≡ 15 → i < 15 → group_bytes (with_address i x g) ≡ sets (group_bytes g) (1 + 7 * i) (address_bytes x)
  unfolding group_bytes
  address_of_lem g i x h l =
      ap (λ (m : List ℕ). g.range ∷ m) (rows_set address_bytes 7 length_address g.addresses i x (omega (arith, h)))
      ∙ sym (sets_past (g.range ∷ []) (rows_bytes address_bytes g.addresses) (address_bytes x) 1 (7 * i) refl)

  pub user_bytes : (i : ℕ) (x : Address) → i < 15 → value_bytes (with_users (with_address i x v.users) v) ≡ sets (value_bytes v) (2 + 7 * i) (address_bytes x)
  user_bytes i x h =
      let z : 1 + (1 + 7 * i) ≡ 2 + 7 * i = omega arith in
      users_bytes (1 + 7 * i) (address_bytes x) (with_address i x v.users) (address_of_lem v.users i x fits.users.places h) (omega (arith, length_address x))
      ∙ ap (λ (n : ℕ). sets (value_bytes v) n (address_bytes x)) z

  pub dispatcher_bytes : (x : Address) → value_bytes (with_dispatchers (with_address 0 x v.dispatchers) v) ≡ sets (value_bytes v) 123 (address_bytes x)
  dispatcher_bytes x =
      dispatchers_bytes (1 + 7 * 0) (address_bytes x) (with_address 0 x v.dispatchers) (address_of_lem v.dispatchers 0 x fits.dispatchers.places (omega arith)) (omega (arith, length_address x))

  -- ---- whole groups

  all_of_it : (g h : Group) → length g.addresses ≡ 15 → length h.addresses ≡ 15 → group_bytes h ≡ sets (group_bytes g) 0 (group_bytes h)
  all_of_it g h e n = sym (sets_all (group_bytes h) (group_bytes g) (length_group h n ∙ sym (length_group g e)))

  pub group_users : (g : Group) → length g.addresses ≡ 15 → value_bytes (with_users g v) ≡ sets (value_bytes v) 1 (group_bytes g)
  group_users g n = users_bytes 0 (group_bytes g) g (all_of_it v.users g fits.users.places n) (omega (arith, length_group g n))

  pub group_dispatchers : (g : Group) → length g.addresses ≡ 15 → value_bytes (with_dispatchers g v) ≡ sets (value_bytes v) 122 (group_bytes g)
  group_dispatchers g n = dispatchers_bytes 0 (group_bytes g) g (all_of_it v.dispatchers g fits.dispatchers.places n) (omega (arith, length_group g n))

  pub group_sources : (g : Group) → length g.addresses ≡ 15 → value_bytes (with_sources g v) ≡ sets (value_bytes v) 243 (group_bytes g)
  group_sources g n = sources_bytes 0 (group_bytes g) g (all_of_it v.lists.sources g fits.lists.sources.places n) (omega (arith, length_group g n))

  pub group_destinations : (g : Group) → length g.addresses ≡ 15 → value_bytes (with_destinations g v) ≡ sets (value_bytes v) 349 (group_bytes g)
  group_destinations g n = destinations_bytes 0 (group_bytes g) g (all_of_it v.lists.destinations g fits.lists.destinations.places n) (omega (arith, length_group g n))

  pub all_areas : (x : Areas) → length x.areas ≡ 15 → value_bytes (with_areas x v) ≡ sets (value_bytes v) 455 (areas_bytes x)
  all_areas x n =
      areas_bytes_lem 0 (areas_bytes x) x (sym (sets_all (areas_bytes x) R (length_areas x n ∙ sym r))) (omega (arith, length_areas x n))

  pub whole_mask : (b : Bool) (n : ℕ) → value_bytes (with_mask b n v) ≡ sets (value_bytes v) 107 (one b ∷ number_bytes 8 n)
  whole_mask b n =
      mask_bytes 0 (one b ∷ number_bytes 8 n) b n (sym (sets_all (one b ∷ number_bytes 8 n) K (ap suc (length_number 8 n) ∙ sym k))) (omega (arith, length_number 8 n))

  -- ---- what lies behind the numbers

  pub lists_behind : drop 243 (value_bytes v) ≡ lists_bytes v.lists
  unfolding lists_bytes
  lists_behind =
      let B = before_lists v.pdu U K F D M T S E R u k f d m t s e 0 [] in
      let apart-there : shape v.pdu U K F D M T S E R ≡ B ++ (S ++ (E ++ R)) = simp append_assoc in
      ap (λ (l : List ℕ). drop 243 l) (bytes_shape v ∙ apart-there) ∙ drop_at B (S ++ (E ++ R)) 243 (length_before v.pdu U K F D M T S E R u k f d m t s e 0 [])
