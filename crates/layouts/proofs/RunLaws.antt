-- Addresses laid one after the other, each as eight bytes of which the last is overwritten by the next, or put back after the last. Assumes
-- nothing.
use Prim.Native.Nat.{ℕ, zero, suc, ◌+◌, ◌*◌, ◌/◌, ◌%◌, ◌^◌, ◌≤◌, ◌<◌}
use mathlib.Core.Path.{◌≡◌, refl, sym, ap, ◌∙◌}
use mathlib.Core.Bool.{Bool, true, false}
use mathlib.Core.List.{List, [], ◌∷◌, ◌++◌, append_assoc, append-nil}
use native.Mathlib.Nat.{add-zero, add-suc, div-one, mul_assoc}
use native.Mathlib.Omega.{arith}
use lib.ListN.{length, get_or, set, length-append, length-set}
use lib.Pow.{pow-add, shr-shr, high}
use lib.Seq.{sets, length-sets, set-set, set_comm, set-get_or, get_or-set_other}
use Rattle.bits.specs.Fields.{field_at}
use Rattle.bits.proofs.FieldLaws.{field_lt, field_split, field_front}
use Rattle.codec.specs.Codec.{got, vec_read}
use Rattle.codec.proofs.Good.{Binary}
use Rattle.codec.proofs.Combinators.{number_got}
use Rattle.message.specs.Elements as element
use Rattle.message.specs.Addresses.{kind_c, extension_c, address_c}
use Rattle.message.specs.declared.Address.{Address}
use Rattle.layouts.specs.Bytes.{number_bytes, rows_bytes}
use Rattle.layouts.specs.Values.{address_bytes}
use Rattle.layouts.proofs.ByteLaws.{sets_append, length_number}
use Rattle.layouts.proofs.PutLaws.{length_address}
use Rattle.layouts.proofs.PartLaws.{Addresses}

-- ---- a number's bytes, taken apart

number_append : (m n v : ℕ) → number_bytes (m + n) v ≡ number_bytes m (v / 2 ^ (8 * n)) ++ number_bytes n v
unfolding number_bytes
number_append m zero v = rw (add-zero, div-one, append-nil)
number_append m (suc n) v =
    let e : 8 + 8 * n ≡ 8 * suc n = omega arith in
    let d : v / 256 / 2 ^ (8 * n) ≡ v / 2 ^ (8 * suc n) = shr-shr v 8 (8 * n) ∙ ap (λ (k : ℕ). v / 2 ^ k) e in
    rw (add-suc, number_append m n (v / 256), d, append_assoc)

-- what lies above n bytes does not go into them
number_low : (n a b : ℕ) → number_bytes n (a * 2 ^ (8 * n) + b) ≡ number_bytes n b
unfolding number_bytes
number_low zero a b = refl
number_low (suc n) a b =
    let e : 8 * suc n ≡ 8 * n + 8 = omega arith in
    let p : a * 2 ^ (8 * suc n) ≡ a * 2 ^ (8 * n) * 256 = ap (λ (k : ℕ). a * 2 ^ k) e ∙ ap (λ (k : ℕ). a * k) (pow-add 2 (8 * n) 8) ∙ sym (mul_assoc a (2 ^ (8 * n)) 256) in
    let q : (a * 2 ^ (8 * suc n) + b) / 256 ≡ a * 2 ^ (8 * n) + b / 256 = omega (arith, p) in
    let r : (a * 2 ^ (8 * suc n) + b) % 256 ≡ b % 256 = omega (arith, p) in
    rw (q, r, number_low n a (b / 256))

-- ---- stores

module _ {A : Type 0} where
  -- a run over another of its length
  sets_over : (xs ys l : List A) (i : ℕ) → length xs ≡ length ys → sets (sets l i xs) i ys ≡ sets l i ys
  sets_over [] [] l i h = refl
  sets_over [] (y ∷ ys) l i h = absurd (omega (arith, h))
  sets_over (x ∷ xs) [] l i h = absurd (omega (arith, h))
  sets_over (x ∷ xs) (y ∷ ys) l i h =
      ap (λ (m : List A). sets m (suc i) ys) (set_under xs (set l i x) (suc i) i y (omega arith) ∙ ap (λ (m : List A). sets m (suc i) xs) (set-set l i x y))
      ∙ sets_over xs ys (set l i y) (suc i) (omega (arith, h))
    where
      set_under : (xs l : List A) (i j : ℕ) (b : A) → j < i → set (sets l i xs) j b ≡ sets (set l j b) i xs
      set_under [] l i j b h = refl
      set_under (x ∷ xs) l i j b h =
          set_under xs (set l i x) (suc i) j b (omega arith) ∙ ap (λ (m : List A). sets m (suc i) xs) (set_comm l i j x b (λ e. omega arith))

  -- a byte behind a run stays
  behind : (xs l : List A) (i j : ℕ) (d : A) → i + length xs ≤ j → get_or (sets l i xs) j d ≡ get_or l j d
  behind [] l i j d h = refl
  behind (x ∷ xs) l i j d h = behind xs (set l i x) (suc i) j d (omega arith) ∙ get_or-set_other l i j x d (λ e. omega arith)

  -- what stood where a run begins, or where it ends with nothing in it, is overwritten
  overwritten : (xs l : List A) (j end : ℕ) (g keep : A) → (length xs ≡ 0 → j ≡ end) → set (sets (set l j g) j xs) end keep ≡ set (sets l j xs) end keep
  overwritten [] l j end g keep e = ap (λ (k : ℕ). set (set l k g) end keep) (e refl) ∙ set-set l end g keep
  overwritten (x ∷ xs) l j end g keep e = ap (λ (m : List A). set (sets m (suc j) xs) end keep) (set-set l j g x)

-- ---- one address, from the fifty bits that begin with its kind

module _ (f : ℕ → ℕ) (binary : Binary f) (at w : ℕ) (is : w ≡ field_at f at 50) where
  abbrev ssi : ℕ
  ssi = field_at f (at + 2) 24

  abbrev extension : ℕ
  extension = field_at f (at + 26) 24

  kind_is : w / 2 ^ 48 ≡ field_at f at 2
  kind_is = ap (λ (x : ℕ). x / 2 ^ 48) is ∙ field_front f binary at 2 48

  front : field_at f at 26 ≡ field_at f at 2 * 2 ^ 24 + ssi
  front = field_split f at 2 24

  whole : w ≡ field_at f at 26 * 2 ^ 24 + extension
  whole = is ∙ field_split f at 26 24

  top : w / 2 ^ 24 ≡ field_at f at 2 * 2 ^ 24 + ssi
  top = ap (λ (x : ℕ). x / 2 ^ 24) is ∙ field_front f binary at 26 24 ∙ front

  four_bytes : (k : ℕ) → field_at f at 2 ≡ k → number_bytes 4 (w / 2 ^ 24) ≡ number_bytes 1 k ++ number_bytes 3 ssi
  four_bytes k e =
      let h : (k * 2 ^ 24 + ssi) / 2 ^ 24 ≡ k = high k 24 (field_lt f binary (at + 2) 24) in
      ap (λ (x : ℕ). number_bytes 4 x) (top ∙ ap (λ (x : ℕ). x * 2 ^ 24 + ssi) e) ∙ number_append 1 3 (k * 2 ^ 24 + ssi) ∙ rw (h, number_low 3 k ssi)

  seven_bytes : number_bytes 7 w ≡ number_bytes 4 (w / 2 ^ 24) ++ number_bytes 3 extension
  seven_bytes = number_append 4 3 w ∙ ap (λ (m : List ℕ). number_bytes 4 (w / 2 ^ 24) ++ m) (ap (λ (x : ℕ). number_bytes 3 x) whole ∙ number_low 3 (field_at f at 26) extension)

  abbrev two : Address
  two = record { kind = 2; ssi = ssi; extension = extension }

  abbrev one : Address
  one = record { kind = 1; ssi = ssi; extension = 0 }

  module _ (n : ℕ) where
    kind_read : (external : Bool) (k : ℕ) → (k ≡ 1 → ⊥) → field_at f at 2 ≡ k → k ≡ 2 → at + 2 ≤ n → (kind_c external).read f n at ≡ got 2 (at + 2)
    unfolding kind_c
    kind_read true k z e t h = rw (number_got element.kind f n at 2 h, e, t)
    kind_read false k z e t h = rw (number_got element.kind f n at 2 h, e, t)

    kind_read_one : (external : Bool) → field_at f at 2 ≡ 1 → at + 2 ≤ n → (kind_c external).read f n at ≡ got 1 (at + 2)
    unfolding kind_c
    kind_read_one true e h = rw (number_got element.kind f n at 2 h, e)
    kind_read_one false e h = rw (number_got element.kind f n at 2 h, e)

    read_two : (external : Bool) → w / 2 ^ 48 ≡ 2 → at + 50 ≤ n → (address_c external).read f n at ≡ got two (at + 50)
    unfolding address_c extension_c
    read_two external e h =
        let k : field_at f at 2 ≡ 2 = sym kind_is ∙ e in
        let p : at + 2 + 24 ≡ at + 26 = omega arith in
        let q : at + 26 + 24 ≡ at + 50 = omega arith in
        rw (kind_read external 2 (λ z. omega (arith, z)) k refl (omega arith), number_got element.ssi f n (at + 2) 24 (omega arith), p, number_got element.extension f n (at + 26) 24 (omega arith), q)

    read_one : (external : Bool) → w / 2 ^ 48 ≡ 1 → at + 26 ≤ n → (address_c external).read f n at ≡ got one (at + 26)
    unfolding address_c extension_c
    read_one external e h =
        let k : field_at f at 2 ≡ 1 = sym kind_is ∙ e in
        let p : at + 2 + 24 ≡ at + 26 = omega arith in
        rw (kind_read_one external k (omega arith), number_got element.ssi f n (at + 2) 24 (omega arith), p)

  bytes_two : w / 2 ^ 48 ≡ 2 → number_bytes 7 w ≡ address_bytes two
  unfolding address_bytes number_bytes
  bytes_two e = seven_bytes ∙ ap (λ (m : List ℕ). m ++ number_bytes 3 extension) (four_bytes 2 (sym kind_is ∙ e))

  bytes_one : w / 2 ^ 48 ≡ 1 → number_bytes 4 (w / 2 ^ 24) ++ (0 ∷ 0 ∷ 0 ∷ []) ≡ address_bytes one
  unfolding address_bytes number_bytes
  bytes_one e = ap (λ (m : List ℕ). m ++ (0 ∷ 0 ∷ 0 ∷ [])) (four_bytes 1 (sym kind_is ∙ e))

-- ---- the loop

module _ (f : ℕ → ℕ) (binary : Binary f) (keep end : ℕ) where
  -- k addresses from position at on, laid from byte p on, where the byte after them is put back
  pub record Rest (k at : ℕ) (m : List ℕ) (p : ℕ) (c : List ℕ) (q : ℕ) : Type 0 where
    pub list : List Address
    pub long : length list ≡ k
    pub area : c ≡ set (sets m p (rows_bytes address_bytes list)) end keep
    pub read : (external : Bool) (n : ℕ) → q ≤ n → vec_read (address_c external) k f n at ≡ got list q
    pub after : at ≤ q

  length_list : (l : List Address) → length (rows_bytes address_bytes l) ≡ 7 * length l
  unfolding rows_bytes
  length_list [] = refl
  length_list (x ∷ l) = omega (arith, length-append (address_bytes x) (rows_bytes address_bytes l), length_address x, length_list l)

  module _ (k at : ℕ) (m new : List ℕ) (p : ℕ) (here : p + 7 * suc k ≡ end) (x : Address) (next g : ℕ) (stored : new ≡ sets m p (address_bytes x ++ (g ∷ []))) (forward : at ≤ next)
      (one_read : (external : Bool) (n : ℕ) → next ≤ n → (address_c external).read f n at ≡ got x next) where
    one_more : (c : List ℕ) (q : ℕ) → Rest k next new (p + 7) c q → Rest (suc k) at m p c q
    unfolding rows_bytes vec_read
    one_more c q t =
        let rows = rows_bytes address_bytes t.list in
        let M = sets m p (address_bytes x) in
        let seven : p + length (address_bytes x) ≡ p + 7 = ap (λ (i : ℕ). p + i) (length_address x) in
        let split : new ≡ set M (p + 7) g = stored ∙ sets_append m p (address_bytes x) (g ∷ []) ∙ ap (λ (i : ℕ). set M i g) seven in
        let joined : sets m p (address_bytes x ++ rows) ≡ sets M (p + 7) rows = sets_append m p (address_bytes x) rows ∙ ap (λ (i : ℕ). sets M i rows) seven in
        record {
          list = x ∷ t.list;
          long = ap suc t.long;
          area =
              t.area ∙ ap (λ (l : List ℕ). set (sets l (p + 7) rows) end keep) split
              ∙ overwritten rows M (p + 7) end g keep (λ z. omega (arith, z, length_list t.list, t.long, here))
              ∙ ap (λ (l : List ℕ). set l end keep) (sym joined);
          read = λ external n h. rw (one_read external n (omega (arith, t.after, h)), t.read external n h);
          after = omega (arith, forward, t.after);
        }

  -- so many are left, and what they lay makes all of them; the next one's fifty bits are held, above one more byte
  pub record Laying (count at : ℕ) (a : List ℕ) (place : ℕ) (m : List ℕ) (next p held : ℕ) : Type 0 where
    pub left : ℕ
    pub here : p + 7 * left ≡ end
    pub room : length m ≡ length a
    pub few : left ≤ count
    pub low : next + 50 * left ≤ at + 50 * count
    pub ahead : p < end → held / 256 ≡ field_at f next 50
    pub rest : (c : List ℕ) (q : ℕ) → Rest left next m p c q → Addresses f count at a c place q

  pub laying_start : (count at : ℕ) (a : List ℕ) (place held : ℕ) → place + 7 * count ≡ end → keep ≡ get_or a end 0 → held / 256 ≡ field_at f at 50
      → Laying count at a place a at place held
  laying_start count at a place held e kept h =
      record {
        left = count;
        here = e;
        room = refl;
        few = omega arith;
        low = omega arith;
        ahead = λ i. h;
        rest = λ c q t.
            let rows = rows_bytes address_bytes t.list in
            let there : keep ≡ get_or (sets a place rows) end 0 = kept ∙ sym (behind rows a place end 0 (omega (arith, length_list t.list, t.long, e))) in
            record { list = t.list; long = t.long; area = t.area ∙ ap (λ (b : ℕ). set (sets a place rows) end b) there ∙ set-get_or (sets a place rows) end 0; read = t.read; after = t.after };
      }

  module _ (count at : ℕ) (a : List ℕ) (place : ℕ) (m : List ℕ) (next p held : ℕ) (so : Laying count at a place m next p held) where
    pub laying_length : length (set m end keep) ≡ length a
    laying_length = length-set m end keep ∙ so.room

    pub laying_end : end ≤ p → (c : List ℕ) → c ≡ set m end keep → Addresses f count at a c place next
    unfolding vec_read rows_bytes
    laying_end h c e = go so.left so.here so.rest
      where
        go : (k : ℕ) → p + 7 * k ≡ end → ((c : List ℕ) (q : ℕ) → Rest k next m p c q → Addresses f count at a c place q) → Addresses f count at a c place next
        go zero z r = r c next (record { list = []; long = refl; area = e; read = λ external n i. refl; after = omega arith })
        go (suc k) z r = absurd (omega (arith, z, h))

    module _ (more : p < end) (new : List ℕ) (stored : new ≡ sets m p (number_bytes 8 held)) where
      abbrev w : ℕ
      w = held / 256

      kind_of : held / 2 ^ 56 ≡ w / 2 ^ 48
      kind_of = sym (shr-shr held 8 48)

      eight_is : number_bytes 8 held ≡ number_bytes 7 w ++ (held % 256 ∷ [])
      unfolding number_bytes
      eight_is = refl

      -- one address is laid, and is followed by the others
      turn : (next₁ held₁ : ℕ) (new₁ : List ℕ) (x : Address) (g : ℕ) → new₁ ≡ sets m p (address_bytes x ++ (g ∷ [])) → next ≤ next₁ → next₁ ≤ next + 50
          → ((external : Bool) (n : ℕ) → next₁ ≤ n → (address_c external).read f n next ≡ got x next₁) → (p + 7 < end → held₁ / 256 ≡ field_at f next₁ 50)
          → Laying count at a place new₁ next₁ (p + 7) held₁
      turn next₁ held₁ new₁ x g e lo hi read h = go so.left so.here so.few so.low so.rest
        where
          go : (k : ℕ) → p + 7 * k ≡ end → k ≤ count → next + 50 * k ≤ at + 50 * count → ((c : List ℕ) (q : ℕ) → Rest k next m p c q → Addresses f count at a c place q)
              → Laying count at a place new₁ next₁ (p + 7) held₁
          go zero z few l r = absurd (omega (arith, z, more))
          go (suc k) z few l r =
              record {
                left = k;
                here = omega (arith, z);
                room = ap (λ (y : List ℕ). length y) e ∙ length-sets m p (address_bytes x ++ (g ∷ [])) ∙ so.room;
                few = omega (arith, few);
                low = omega (arith, l, hi);
                ahead = h;
                rest = λ c q t. r c q (one_more k next m new₁ p z x next₁ g e lo read c q t);
              }

      pub laying_two : held / 2 ^ 56 ≡ 2 → (held₁ : ℕ) → (p + 7 < end → held₁ / 256 ≡ field_at f (next + 50) 50) → Laying count at a place new (next + 50) (p + 7) held₁
      laying_two k held₁ h =
          let k₂ : w / 2 ^ 48 ≡ 2 = sym kind_of ∙ k in
          turn (next + 50) held₁ new (two f binary next w (so.ahead more)) (held % 256)
          (stored ∙ ap (λ (bs : List ℕ). sets m p bs) (eight_is ∙ ap (λ (bs : List ℕ). bs ++ (held % 256 ∷ [])) (bytes_two f binary next w (so.ahead more) k₂)))
          (omega arith) (omega arith) (λ external n i. read_two f binary next w (so.ahead more) n external k₂ i) h

      pub laying_one : held / 2 ^ 56 ≡ 1 → (last : List ℕ) → last ≡ sets new (p + 4) (number_bytes 4 0) → (held₁ : ℕ) → (p + 7 < end → held₁ / 256 ≡ field_at f (next + 26) 50)
          → Laying count at a place last (next + 26) (p + 7) held₁
      unfolding number_bytes
      laying_one k last e held₁ h =
          let k₁ : w / 2 ^ 48 ≡ 1 = sym kind_of ∙ k in
          let A = number_bytes 4 (w / 2 ^ 24) in
          let Z : List ℕ = 0 ∷ 0 ∷ 0 ∷ 0 ∷ [] in
          let halves : number_bytes 8 held ≡ A ++ number_bytes 4 held =
          number_append 4 4 held ∙ ap (λ (x : ℕ). number_bytes 4 x ++ number_bytes 4 held) (sym (shr-shr held 8 24)) in
          let four : p + length A ≡ p + 4 = ap (λ (i : ℕ). p + i) (length_number 4 (w / 2 ^ 24)) in
          let split : new ≡ sets (sets m p A) (p + 4) (number_bytes 4 held) =
          stored ∙ ap (λ (bs : List ℕ). sets m p bs) halves ∙ sets_append m p A (number_bytes 4 held) ∙ ap (λ (i : ℕ). sets (sets m p A) i (number_bytes 4 held)) four in
          let joined : sets m p (A ++ Z) ≡ sets (sets m p A) (p + 4) Z = sets_append m p A Z ∙ ap (λ (i : ℕ). sets (sets m p A) i Z) four in
          let laid : last ≡ sets m p (A ++ Z) =
          e ∙ ap (λ (l : List ℕ). sets l (p + 4) Z) split ∙ sets_over (number_bytes 4 held) Z (sets m p A) (p + 4) (length_number 4 held) ∙ sym joined in
          let regroup : A ++ Z ≡ address_bytes (one f binary next w (so.ahead more)) ++ (0 ∷ []) =
          sym (append_assoc A (0 ∷ 0 ∷ 0 ∷ []) (0 ∷ [])) ∙ ap (λ (bs : List ℕ). bs ++ (0 ∷ [])) (bytes_one f binary next w (so.ahead more) k₁) in
          turn (next + 26) held₁ last (one f binary next w (so.ahead more)) 0 (laid ∙ ap (λ (bs : List ℕ). sets m p bs) regroup)
          (omega arith) (omega arith) (λ external n i. read_one f binary next w (so.ahead more) n external k₁ i) h

-- by the contract of `lay_kind`: the eight bytes are stored, and of kind 1 the last four of them are zero
pub data Stored (a b : List ℕ) (p held : ℕ) : ℕ → Type 0 where
  stored_two : held / 2 ^ 56 ≡ 2 → b ≡ sets a p (number_bytes 8 held) → Stored a b p held 50
  stored_one : held / 2 ^ 56 ≡ 1 → b ≡ sets (sets a p (number_bytes 8 held)) (p + 4) (number_bytes 4 0) → Stored a b p held 26

pub stored_most : (a b : List ℕ) (p held r : ℕ) → Stored a b p held r → r ≤ 50
stored_most a b p held r (stored_two k e) = omega arith
stored_most a b p held r (stored_one k e) = omega arith

module _ (f : ℕ → ℕ) (binary : Binary f) (keep end count at : ℕ) (a : List ℕ) (place : ℕ) (m : List ℕ) (next p held : ℕ)
    (so : Laying f binary keep end count at a place m next p held) (more : p < end) where
  pub laying_turn : (new : List ℕ) (step : ℕ) → Stored m new p held step → (held₁ : ℕ) → (p + 7 < end → held₁ / 256 ≡ field_at f (next + step) 50)
      → Laying f binary keep end count at a place new (next + step) (p + 7) held₁
  laying_turn new step (stored_two k e) held₁ h = laying_two f binary keep end count at a place m next p held so more new e k held₁ h
  laying_turn new step (stored_one k e) held₁ h =
      laying_one f binary keep end count at a place m next p held so more (sets m p (number_bytes 8 held)) refl k new e held₁ h
