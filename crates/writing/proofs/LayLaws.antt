-- A message laid in an area: what is written from the top bit of a byte on, with its spare bits zero. Assumes nothing.
use Rattle.std.proofs.Common.{◌≡◌, ℕ, ◌+◌, ◌*◌, ◌/◌, ◌%◌, ◌^◌, ◌<◌, ◌≤◌, List, Ok, Err, length, sym, refl, ap, ◌∙◌, arith, le-leb}
use borrow.Author.Tests.{lt-leb}
use Rattle.bits.specs.Puts.{put_bits, binary, spare, pad_of}
use Rattle.bits.proofs.PutLaws.{put_append, pad_there}
use Rattle.codec.specs.Stops.{refusal}
use Rattle.codec.specs.declared.Stop.{Stop}
use Rattle.writing.specs.Wrote.{Room, Wrote}
use Rattle.writing.specs.Writing.{bytes_for, padded, lay_of, lay_in, laid, refused, written_of, area_of}
use Rattle.writing.proofs.WroteLaws.{wrote_end}

-- where the whole bytes lie in the area there is room for the bits
pub lay_room : (l : List ℕ) (b : ℕ) (bs : List ℕ) → b < 2 ^ 16 → length bs ≤ 4096 → b + bytes_for (length bs) ≤ length l → Room l (8 * b) bs
lay_room l b bs h k m = record { inside = omega arith; most = omega arith }

-- a position counts its spare bits as the message does that starts at a whole byte
spare_from : (b n : ℕ) → spare (8 * b + n) ≡ spare n
unfolding spare
spare_from b n = let e : (8 * b + n) % 8 ≡ n % 8 = omega arith in rw e

-- the bits, then `pad`
pub lay_done : (l m o : List ℕ) (b q : ℕ) (bs : List ℕ) → Room l (8 * b) bs → Wrote l m (8 * b) q bs → o ≡ pad_of m q → o ≡ lay_of l b bs
unfolding lay_of padded
lay_done l m o b q bs r w e =
    let end : q ≡ 8 * b + length bs = wrote_end w r.most in
    let inside : q ≤ 8 * length m = omega (arith, end, r.inside, w.same) in
    e
    ∙ pad_there m q inside
    ∙ ap (λ (n : ℕ). put_bits m n (binary (spare n) 0)) end
    ∙ ap (λ (s : ℕ). put_bits m (8 * b + length bs) (binary s 0)) (spare_from b (length bs))
    ∙ ap (λ (k : List ℕ). put_bits k (8 * b + length bs) (binary (spare (length bs)) 0)) (w.area r)
    ∙ sym (put_append l (8 * b) bs (binary (spare (length bs)) 0))

-- what is written from the first bit on ends where the bits do
pub ends_at : {l m : List ℕ} {p : ℕ} {bs : List ℕ} → Wrote l m 0 p bs → length bs ≤ 4096 → p ≡ length bs
ends_at {bs = bs} w h = let small : 0 + length bs < 2 ^ 64 = omega arith in omega (arith, wrote_end w small)

-- ---- a refusal

pub refusing : (l : List ℕ) (s t : Stop) → s ≡ t → (Err s ≡ written_of (refused t)) × (l ≡ area_of l (refused t))
unfolding written_of area_of
refusing l s t d = (ap Err d, refl)

-- ---- 14, or the message

lay_fits : (l : List ℕ) (b : ℕ) (bs : List ℕ) → b + bytes_for (length bs) ≤ length l → lay_in l b bs ≡ laid (lay_of l b bs) (length bs)
unfolding lay_in
lay_fits l b bs h = rw (le-leb (b + bytes_for (length bs)) (length l) h)

lay_short : (l : List ℕ) (b : ℕ) (bs : List ℕ) → length l < b + bytes_for (length bs) → lay_in l b bs ≡ refused (refusal 14)
unfolding lay_in
lay_short l b bs h = rw (lt-leb (b + bytes_for (length bs)) (length l) h)

module _ (l : List ℕ) (b : ℕ) (bs : List ℕ) (n : ℕ) (e : n ≡ length bs) where
  pub no_room : (s : Stop) → length l < b + (n + 7) / 8 → s ≡ refusal 14 → (Err s ≡ written_of (lay_in l b bs)) × (l ≡ area_of l (lay_in l b bs))
  no_room s h z = let short : lay_in l b bs ≡ refused (refusal 14) = lay_short l b bs (omega arith) in rw short (refusing l s (refusal 14) z)

  pub all_laid : (m : List ℕ) → b + (n + 7) / 8 ≤ length l → m ≡ lay_of l b bs → (Ok n ≡ written_of (lay_in l b bs)) × (m ≡ area_of l (lay_in l b bs))
  unfolding area_of written_of
  all_laid m h d = let f : lay_in l b bs ≡ laid (lay_of l b bs) (length bs) = lay_fits l b bs (omega arith) in (rw (f, e) refl, rw f d)
