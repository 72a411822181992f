-- Laws of what a writer leaves: one run of bits after another, and a loop's runs. Assumes nothing.
use Rattle.std.proofs.Common.{◌≡◌, ℕ, ◌+◌, ◌*◌, ◌%◌, ◌^◌, ◌<◌, ◌≤◌, List, [], ◌++◌, length, sym, refl, ap, ◌∙◌, ⊎_elim, append-nil, add-zero, mod-eq_of_lt, arith, length-append}
use Rattle.bits.specs.Puts.{put_bits, binary, put_of}
use Rattle.bits.proofs.PutLaws.{put_append, length_put, length_binary, put_there, put_past}
use Rattle.bits.proofs.SetLaws.{lt_or}
use Rattle.writing.specs.Wrote.{Room, Wrote}

pub room_left : (l : List ℕ) (at : ℕ) (xs ys : List ℕ) → Room l at (xs ++ ys) → Room l at xs
room_left l at xs ys r = record { inside = omega (arith, r.inside, length-append xs ys); most = omega (arith, r.most, length-append xs ys) }

-- what was written ends where its bits end
pub wrote_end : {l m : List ℕ} {at p : ℕ} {bs : List ℕ} → Wrote l m at p bs → at + length bs < 2 ^ 64 → p ≡ at + length bs
wrote_end w h = w.next ∙ mod-eq_of_lt h

room_right : {l m : List ℕ} {at p : ℕ} (xs ys : List ℕ) → Room l at (xs ++ ys) → Wrote l m at p xs → Room m p ys
room_right {l} {m} {at} {p} xs ys r w =
    let e = wrote_end w (room_left l at xs ys r).most in
    record { inside = omega (arith, r.inside, e, w.same, length-append xs ys); most = omega (arith, r.most, e, length-append xs ys) }

-- one run after another, in the area
put_join : {l m : List ℕ} {at p : ℕ} (xs ys : List ℕ) → Room l at (xs ++ ys) → Wrote l m at p xs → put_bits m p ys ≡ put_bits l at (xs ++ ys)
put_join {l} {m} {at} {p} xs ys r w =
    let h = room_left l at xs ys r in
    ap (λ (o : List ℕ). put_bits o p ys) (w.area h) ∙ ap (λ (n : ℕ). put_bits (put_bits l at xs) n ys) (wrote_end w h.most) ∙ sym (put_append l at xs ys)

pub wrote_none : (l : List ℕ) (at : ℕ) → at < 2 ^ 64 → Wrote l l at at []
unfolding put_bits
wrote_none l at h = record { next = sym (rw add-zero (mod-eq_of_lt h)); same = refl; area = λ _. refl }

pub wrote_join : {l m k : List ℕ} {at p q : ℕ} {xs ys : List ℕ} → Wrote l m at p xs → Wrote m k p q ys → Wrote l k at q (xs ++ ys)
wrote_join {l} {m} {k} {at} {p} {q} {xs} {ys} a b =
    record {
      next = omega (arith, a.next, b.next, length-append xs ys);
      same = b.same ∙ a.same;
      area = λ r. b.area (room_right xs ys r a) ∙ put_join xs ys r a;
    }

-- and nothing after it
pub wrote_last : {l m : List ℕ} {at p : ℕ} {bs : List ℕ} → Wrote l m at p bs → Wrote l m at p (bs ++ [])
wrote_last {bs = bs} w = rw (append-nil bs) w

-- ---- one number

length_put_of : (l : List ℕ) (at w v : ℕ) → w ≤ 64 → length (put_of l at w v) ≡ length l
length_put_of l at w v hw =
    ⊎_elim (λ past. rw (put_past l at w v hw past)) (λ there. rw (put_there l at w v hw there) (length_put l at (binary w v))) (lt_or (8 * length l) (at + w))

-- the low w bits of v, as `put` leaves them
pub put_wrote : (l m : List ℕ) (at w v p : ℕ) → w ≤ 64 → m ≡ put_of l at w v → p ≡ (at + w) % 2 ^ 64 → Wrote l m at p (binary w v)
put_wrote l m at w v p hw e n =
    record {
      next = rw (length_binary w v) n;
      same = rw e (length_put_of l at w v hw);
      area = λ r. e ∙ put_there l at w v hw (omega (arith, r.inside, length_binary w v));
    }

-- ---- the runs of a loop

-- of the bits bs, which go into l from position at on, `rest` are left to be written into m from position p on
pub record Left (l m : List ℕ) (at p : ℕ) (bs rest : List ℕ) : Type 0 where
  pub small : p < 2 ^ 64
  pub ends : (at + length bs) % 2 ^ 64 ≡ (p + length rest) % 2 ^ 64
  pub same : length m ≡ length l
  pub area : Room l at bs → Room m p rest × (put_bits l at bs ≡ put_bits m p rest)

pub left_all : (l : List ℕ) (at : ℕ) (bs : List ℕ) → at < 2 ^ 64 → Left l l at at bs bs
left_all l at bs h = record { small = h; ends = refl; same = refl; area = λ r. (r, refl) }

pub left_some : {l m k : List ℕ} {at p q : ℕ} {bs : List ℕ} (xs ys : List ℕ) → Left l m at p bs (xs ++ ys) → Wrote m k p q xs → Left l k at q bs ys
left_some {l} {m} {k} {at} {p} {q} {bs} xs ys h w =
    record {
      small = omega (arith, w.next);
      ends = omega (arith, h.ends, w.next, length-append xs ys);
      same = w.same ∙ h.same;
      area = λ r. (room_right xs ys (h.area r).0 w, (h.area r).1 ∙ sym (put_join xs ys (h.area r).0 w));
    }

pub left_none : {l m : List ℕ} {at p : ℕ} {bs : List ℕ} → Left l m at p bs [] → Wrote l m at p bs
unfolding put_bits
left_none {l} {m} {at} {p} {bs} h =
    record { next = sym (h.ends ∙ rw add-zero (mod-eq_of_lt h.small)); same = h.same; area = λ r. sym (h.area r).1 }

-- the last run of them
pub left_last : {l m k : List ℕ} {at p q : ℕ} {bs xs : List ℕ} → Left l m at p bs xs → Wrote m k p q xs → Wrote l k at q bs
left_last {xs = xs} h w = left_none (left_some xs [] (rw (append-nil xs) h) w)
