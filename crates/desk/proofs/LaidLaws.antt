-- Messages laid one after another, 100 bytes apart: bytes that none fills stay, and each is read back as it was sent. Assumes nothing.
use Prim.Native.Nat.{ℕ, suc, ◌+◌, ◌*◌, ◌/◌, ◌%◌, ◌≤◌, ◌<◌}
use mathlib.Core.Path.{◌≡◌, refl, sym, ap, ◌∙◌, subst}
use mathlib.Core.Bool.{true}
use mathlib.Core.List.{List, [], ◌∷◌, ◌++◌}
use mathlib.Core.Logic.{◌⊎◌, inl, inr, ⊎_elim}
use native.Mathlib.Nat.{add-suc}
use native.Mathlib.Omega.{arith}
use lib.ListN.{length, get_or, drop, length-append, length-set, length-drop}
use lib.Seq.{get_or-set_same, get_or-set_other, get_or-drop}
use borrow.Author.Tests.{eq-eqb, le-leb}
use Rattle.bits.specs.Fields.{bit_at}
use Rattle.bits.specs.Puts.{put_bits, binary, spare}
use Rattle.bits.proofs.PutLaws.{length_binary}
use Rattle.bits.proofs.RoundLaws.{binary_bits}
use Rattle.bits.proofs.Stands.{Stands, stands_left, bits_join, put_stands, byte_other}
use Rattle.codec.specs.Codec.{got, both}
use Rattle.profile.specs.Rules.{profile_ok}
use Rattle.profile.specs.declared.Air.{Air}
use Rattle.profile.specs.declared.Profile.{Profile}
use Rattle.message.specs.Messages.{message_c}
use Rattle.message.specs.Reading.{whole_of, length_ok, read_bits, read_of}
use Rattle.message.specs.declared.Value.{Value}
use Rattle.message.proofs.MessageLaws.{good_message}
use Rattle.validity.specs.Validity.{valid_of}
use Rattle.writing.specs.Writing.{bits_of, bytes_for, padded, lay_of}
use Rattle.writing.proofs.LengthLaws.{message_some, message_most}
use Rattle.writing.proofs.RoundTrips.{laid_length}
use Rattle.sending.specs.Sending.{lay_from, lay_all, no_laid, laid_more, laid_from, laid_of}
use Rattle.sending.specs.declared.Laid.{Laid}
use Rattle.sending.proofs.SentLaws.{Sends, AllSend}
use Rattle.desk.specs.Outputs.{bits_in, Unfilled, ReadBack}

-- ---- how many, and their lengths

module _ (air : Air) where
  count_is : (x : Laid) (vs : List Value) → (laid_from air x vs).count ≡ x.count + length vs
  unfolding laid_from
  count_is x [] = omega arith
  count_is x (v ∷ vs) = omega (arith, count_is (laid_more x (length (bits_of air v))) vs)

  -- the lengths of those before stay
  before_kept : (x : Laid) (vs : List Value) (j : ℕ) → j < x.count → bits_in (laid_from air x vs) j ≡ bits_in x j
  unfolding laid_from
  before_kept x [] j h = refl
  before_kept x (v ∷ vs) j h =
      let n = length (bits_of air v) in
      before_kept (laid_more x n) vs j (omega arith) ∙ get_or-set_other x.lengths x.count j n 0 (λ e. absurd (omega (arith, e, h)))

  -- the length of the next one
  next_length : (x : Laid) (v : Value) (vs : List Value) → x.count < length x.lengths → bits_in (laid_from air x (v ∷ vs)) x.count ≡ length (bits_of air v)
  unfolding laid_from
  next_length x v vs h =
      let n = length (bits_of air v) in
      before_kept (laid_more x n) vs x.count (omega arith) ∙ get_or-set_same x.lengths x.count n 0 h

-- ---- the bytes of one message

padded_length : (bs : List ℕ) → length (padded bs) ≡ 8 * bytes_for (length bs)
unfolding padded spare
padded_length bs = omega (arith, length-append bs (binary (spare (length bs)) 0), length_binary (spare (length bs)) 0)

-- a byte beside it stays
byte_beside : (l : List ℕ) (b : ℕ) (bs : List ℕ) (i : ℕ) → (i < b) ⊎ (b + bytes_for (length bs) ≤ i) → get_or (lay_of l b bs) i 0 ≡ get_or l i 0
unfolding lay_of
byte_beside l b bs i k =
    let n = padded_length bs in
    byte_other l (8 * b) (padded bs) i (⊎_elim (λ h. inl (omega arith)) (λ h. inr (omega (arith, n, h))) k)

-- ---- bytes that no message fills stay

module _ (air : Air) where
  unfilled_from : (vs : List Value) (x : Laid) (l : List ℕ) (i : ℕ) → length x.lengths ≡ 3 → x.count + length vs ≤ 3
      → ((k : ℕ) → x.count ≤ k → k < (laid_from air x vs).count → (i < 100 * k) ⊎ (100 * k + bytes_for (bits_in (laid_from air x vs) k) ≤ i))
      → get_or (lay_from air x.count l vs) i 0 ≡ get_or l i 0
  unfolding laid_from lay_from
  unfilled_from [] x l i size few out = refl
  unfilled_from (v ∷ vs) x l i size few out =
      let bs = bits_of air v in
      let n = length bs in
      let more = laid_more x n in
      let is : bits_in (laid_from air more vs) x.count ≡ n = next_length air x v vs (omega arith) in
      let here = out x.count (omega arith) (omega (arith, count_is air more vs)) in
      unfilled_from vs more (lay_of l (100 * x.count) bs) i (length-set x.lengths x.count n ∙ size) (omega arith) (λ k h. out k (omega (arith, h)))
      ∙ byte_beside l (100 * x.count) bs i (subst (λ (m : ℕ). (i < 100 * x.count) ⊎ (100 * x.count + bytes_for m ≤ i)) is here)

  -- and so do those before the first of them
  earlier_stays : (vs : List Value) (k : ℕ) (l : List ℕ) (i : ℕ) → i < 100 * k → get_or (lay_from air k l vs) i 0 ≡ get_or l i 0
  unfolding lay_from
  earlier_stays [] k l i h = refl
  earlier_stays (v ∷ vs) k l i h = earlier_stays vs (k + 1) (lay_of l (100 * k) (bits_of air v)) i (omega arith) ∙ byte_beside l (100 * k) (bits_of air v) i (inl h)

  from_length : (vs : List Value) (k : ℕ) (l : List ℕ) → length (lay_from air k l vs) ≡ length l
  unfolding lay_from
  from_length [] k l = refl
  from_length (v ∷ vs) k l = from_length vs (k + 1) (lay_of l (100 * k) (bits_of air v)) ∙ laid_length l (100 * k) (bits_of air v)

-- ---- each message is read back as the value that was sent

-- the bits of a run, s places further on
stands_moved : (f g : ℕ → ℕ) (s at : ℕ) (bs : List ℕ) → ((j : ℕ) → at ≤ j → j < at + length bs → g j ≡ f (s + j)) → Stands f (s + at) bs → Stands g at bs
stands_moved f g s at [] h st = tt
stands_moved f g s at (b ∷ bs) h st =
    (h at (omega arith) (omega arith) ∙ st.0, stands_moved f g s (suc at) bs (λ j k m. h j (omega (arith, k)) (omega (arith, m))) (rw add-suc st.1))

bit_moved : (m l : List ℕ) (b j : ℕ) → get_or m (b + j / 8) 0 ≡ get_or l (b + j / 8) 0 → bit_at (drop b m) j ≡ bit_at l (8 * b + j)
unfolding bit_at
bit_moved m l b j e =
    let q : (8 * b + j) / 8 ≡ b + j / 8 = omega arith in
    let r : (8 * b + j) % 8 ≡ j % 8 = omega arith in
    rw (get_or-drop b m (j / 8) 0, e, q, r) refl

-- the bits of a message, once it is laid
laid_there : (p : Profile) (v : Value) → valid_of p.air v ≡ true → (l : List ℕ) (b : ℕ) → b + bytes_for (length (bits_of p.air v)) ≤ length l
    → Stands (bit_at (lay_of l b (bits_of p.air v))) (8 * b) (bits_of p.air v)
unfolding lay_of padded valid_of bits_of
laid_there p v ok l b h =
    let bs = bits_of p.air v in
    let rest = binary (spare (length bs)) 0 in
    let n = padded_length bs in
    stands_left (bit_at (put_bits l (8 * b) (bs ++ rest))) (8 * b) bs rest
    (put_stands l (8 * b) (bs ++ rest) (bits_join bs rest ((good_message p.air).are_bits v ok) (binary_bits (spare (length bs)) 0)) (omega (arith, n, h)))

-- a value whose bits stand at the front of the bytes is read
standing_read : (p : Profile) (v : Value) (a : List ℕ) → profile_ok p ≡ true → valid_of p.air v ≡ true → Stands (bit_at a) 0 (bits_of p.air v)
    → length (bits_of p.air v) ≤ 8 * length a → read_of p a (length (bits_of p.air v)) ≡ got v (length (bits_of p.air v))
unfolding read_of read_bits whole_of length_ok both valid_of bits_of
standing_read p v a passes ok st held =
    let n = length (bits_of p.air v) in
    let some : 1 ≤ n = omega (arith, message_some p.air v) in
    let most : n ≤ 4096 = omega (arith, message_most p.air v ok) in
    let z : 0 + n ≡ n = omega arith in
    let r : (message_c p.air).read (bit_at a) n 0 ≡ got v n = (good_message p.air).forward (bit_at a) n 0 v ok st (omega arith) ∙ ap (λ (q : ℕ). got v q) z in
    rw (passes, le-leb 1 n some, le-leb n 4096 most, le-leb n (8 * length a) held, r, eq-eqb n n refl) refl

module _ (p : Profile) (passes : profile_ok p ≡ true) where
  -- a message that was laid is read, whatever was done beyond its 100 bytes
  one_read : (v : Value) → Sends p v → (l m : List ℕ) (b : ℕ) → b + 100 ≤ length l → length m ≡ length l
      → ((i : ℕ) → i < b + 100 → get_or m i 0 ≡ get_or (lay_of l b (bits_of p.air v)) i 0)
      → read_of p (drop b m) (length (bits_of p.air v)) ≡ got v (length (bits_of p.air v))
  one_read v s l m b room same h =
      let bs = bits_of p.air v in
      let short = s.short in
      let there = laid_there p v s.valid l b (omega (arith, short)) in
      let z : 8 * b + 0 ≡ 8 * b = omega arith in
      standing_read p v (drop b m) passes s.valid
      (stands_moved (bit_at (lay_of l b bs)) (bit_at (drop b m)) (8 * b) 0 bs
      (λ j low high. bit_moved m (lay_of l b bs) b j (h (b + j / 8) (omega (arith, high, short)))) (subst (λ (k : ℕ). Stands (bit_at (lay_of l b bs)) k bs) (sym z) there))
      (omega (arith, length-drop b m, same, short))

  read_from : (vs : List Value) (x : Laid) (l : List ℕ) → length x.lengths ≡ 3 → x.count + length vs ≤ 3 → 300 ≤ length l → AllSend p vs
      → ReadBack p (laid_from p.air x vs) (lay_from p.air x.count l vs) x.count vs
  unfolding laid_from lay_from
  read_from [] x l size few room all = tt
  read_from (v ∷ vs) x l size few room all =
      let bs = bits_of p.air v in
      let n = length bs in
      let more = laid_more x n in
      let next = lay_of l (100 * x.count) bs in
      let is : bits_in (laid_from p.air more vs) x.count ≡ n = next_length p.air x v vs (omega arith) in
      let size₁ = laid_length l (100 * x.count) bs in (
        subst (λ (k : ℕ). read_of p (drop (100 * x.count) (lay_from p.air (x.count + 1) next vs)) k ≡ got v k) (sym is)
            (one_read v all.0 l (lay_from p.air (x.count + 1) next vs) (100 * x.count) (omega arith) (from_length p.air vs (x.count + 1) next ∙ size₁)
            (λ i h. earlier_stays p.air vs (x.count + 1) next i (omega (arith, h)))),
        read_from vs more next (length-set x.lengths x.count n ∙ size) (omega arith) (omega (arith, size₁)) all.1,
      )

-- ---- all that a call sends

module _ (air : Air) (vs : List Value) (few : length vs ≤ 3) where
  sized : length no_laid.lengths ≡ 3
  unfolding no_laid
  sized = refl

  pub laid_count : (laid_of air vs).count ≡ length vs
  unfolding laid_of no_laid
  laid_count = let z : 0 + length vs ≡ length vs = omega arith in count_is air no_laid vs ∙ z

  pub unfilled_stay : (l : List ℕ) (i : ℕ) → Unfilled (laid_of air vs) i → get_or (lay_all air l vs) i 0 ≡ get_or l i 0
  unfolding laid_of lay_all no_laid
  unfilled_stay l i out = unfilled_from air vs no_laid l i sized (omega arith) (λ k low. out k)

pub all_length : (air : Air) (vs : List Value) (l : List ℕ) → length (lay_all air l vs) ≡ length l
unfolding lay_all
all_length air vs l = from_length air vs 0 l

pub all_read : (p : Profile) → profile_ok p ≡ true → (vs : List Value) → length vs ≤ 3 → (l : List ℕ) → 300 ≤ length l → AllSend p vs
    → ReadBack p (laid_of p.air vs) (lay_all p.air l vs) 0 vs
unfolding laid_of lay_all no_laid
all_read p passes vs few l room all = read_from p passes vs no_laid l (sized p.air vs few) (omega arith) room all
