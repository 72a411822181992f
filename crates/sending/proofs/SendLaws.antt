-- Laws of sending: messages one after another, and that of valid messages nothing is left out. Assumes nothing.
use Prim.Native.Nat.{ℕ, zero, suc, ◌+◌, ◌*◌, ◌≤◌, ◌<◌}
use mathlib.Core.Path.{◌≡◌, refl, sym, ap, ◌∙◌}
use mathlib.Core.Bool.{Bool, true, false}
use mathlib.Core.List.{List, [], ◌∷◌, ◌++◌}
use native.Mathlib.Omega.{arith}
use lib.ListN.{length, get_or}
use Rattle.std.proofs.Common.{append_assoc, add-one, Result, Ok, Err}
use Rattle.std.specs.Result.{is_ok}
use Rattle.codec.specs.declared.Stop.{Stop}
use Rattle.std.specs.List.{filter}
use Rattle.profile.specs.Counting.{one}
use Rattle.profile.specs.declared.Air.{Air}
use Rattle.profile.specs.declared.Profile.{Profile}
use Rattle.message.specs.declared.Group.{Group}
use Rattle.message.specs.declared.Value.{Value}
use Rattle.records.specs.declared.Sorted.{Sorted}
use borrow.Author.Tests.{lt-ltb, le-ltb}
use Rattle.writing.specs.Writing.{Write, laid, refused, bits_of, write_of, written_of, area_of}
use Rattle.writing.proofs.LengthLaws.{message_most}
use Rattle.writing.proofs.RoundTrips.{can_write, wrote_can}
use Rattle.sending.specs.Acks.{ack_if, acks_of}
use Rattle.sending.specs.Sending.{no_laid, laid_more, laid_next, send_laid, send_area, all_laid, all_area}
use Rattle.sending.specs.declared.Laid.{Laid}

-- ---- some messages, then others

module _ (p : Profile) where
  pub laid_join : (x : Laid) (l : List ℕ) (vs ws : List Value) → all_laid p x l (vs ++ ws) ≡ all_laid p (all_laid p x l vs) (all_area p x l vs) ws
  unfolding all_laid all_area
  laid_join x l [] ws = refl
  laid_join x l (v ∷ vs) ws = laid_join (send_laid p x l v) (send_area p x l v) vs ws

  pub area_join : (x : Laid) (l : List ℕ) (vs ws : List Value) → all_area p x l (vs ++ ws) ≡ all_area p (all_laid p x l vs) (all_area p x l vs) ws
  unfolding all_laid all_area
  area_join x l [] ws = refl
  area_join x l (v ∷ vs) ws = area_join (send_laid p x l v) (send_area p x l v) vs ws

-- ---- the ACKs of a request, class by class

unfoldable pub acks_to : Air → ℕ → Group → Sorted → ℕ → List Value
acks_to air t users s zero = []
acks_to air t users s (suc class) = acks_to air t users s class ++ ack_if air t users s class

module _ (p : Profile) (l : List ℕ) (t : ℕ) (users : Group) (s : Sorted) where
  pub acks_none : (x : Laid) → x ≡ no_laid → (x ≡ all_laid p no_laid l (acks_to p.air t users s 0)) × (l ≡ all_area p no_laid l (acks_to p.air t users s 0))
  unfolding acks_to all_laid all_area
  acks_none x e = (e, refl)

  pub acks_more : (x y : Laid) (m k : List ℕ) (class : ℕ)
      → (x ≡ all_laid p no_laid l (acks_to p.air t users s class)) × (m ≡ all_area p no_laid l (acks_to p.air t users s class))
      → (y ≡ all_laid p x m (ack_if p.air t users s class)) × (k ≡ all_area p x m (ack_if p.air t users s class))
      → (y ≡ all_laid p no_laid l (acks_to p.air t users s (class + 1))) × (k ≡ all_area p no_laid l (acks_to p.air t users s (class + 1)))
  unfolding acks_to
  acks_more x y m k class e f = rw add-one (
    f.0 ∙ rw (e.0, e.1, laid_join p no_laid l (acks_to p.air t users s class) (ack_if p.air t users s class)) refl,
    f.1 ∙ rw (e.0, e.1, area_join p no_laid l (acks_to p.air t users s class) (ack_if p.air t users s class)) refl,
  )

  pub acks_all : (x : Laid) (m : List ℕ) (class : ℕ) → class ≡ 3
      → (x ≡ all_laid p no_laid l (acks_to p.air t users s class)) × (m ≡ all_area p no_laid l (acks_to p.air t users s class))
      → (x ≡ all_laid p no_laid l (acks_of p.air t users s)) × (m ≡ all_area p no_laid l (acks_of p.air t users s))
  unfolding acks_to acks_of
  acks_all x m class e f = (f.0 ∙ ap (λ (vs : List Value). all_laid p no_laid l vs) all, f.1 ∙ ap (λ (vs : List Value). all_area p no_laid l vs) all)
    where
      all : acks_to p.air t users s class ≡ acks_of p.air t users s
      all = rw e (append_assoc (ack_if p.air t users s 0) (ack_if p.air t users s 1) (ack_if p.air t users s 2))

-- how many outcomes are there
pub count_three : (l : List Bool) → length l ≡ 3 → length (filter (λ b. b) l) ≡ one (get_or l 0 false) + one (get_or l 1 false) + one (get_or l 2 false)
count_three [] e = absurd (omega arith)
count_three (a ∷ []) e = absurd (omega arith)
count_three (a ∷ b ∷ []) e = absurd (omega arith)
count_three (a ∷ b ∷ c ∷ []) e = go a b c
  where
    go : (a b c : Bool) → length (filter (λ d. d) (a ∷ b ∷ c ∷ [])) ≡ one a + one b + one c
    go true true true = refl
    go true true false = refl
    go true false true = refl
    go true false false = refl
    go false true true = refl
    go false true false = refl
    go false false true = refl
    go false false false = refl
count_three (a ∷ b ∷ c ∷ d ∷ l) e = absurd (omega arith)

-- ---- one message

module _ (p : Profile) (x : Laid) (l : List ℕ) (v : Value) where
  -- as `write` leaves it
  module _ (w : Result ℕ Stop) (m : List ℕ) (h : x.count < 3) (e : (w ≡ written_of (write_of p v l (100 * x.count))) × (m ≡ area_of l (write_of p v l (100 * x.count)))) where
    pub send_done : (n : ℕ) (r : Laid) → w ≡ Ok n → r ≡ laid_more x n → (r ≡ send_laid p x l v) × (m ≡ send_area p x l v)
    unfolding send_laid send_area written_of
    send_done n r d q = rw (lt-ltb x.count 3 h) (q ∙ go (write_of p v l (100 * x.count)) (sym d ∙ e.0), e.1)
      where
        go : (y : Write) → Ok n ≡ written_of y → laid_more x n ≡ laid_next x y
        go (laid k b) z = let s : n ≡ b = cc in ap (laid_more x) s
        go (refused s) z = cc

    pub send_not : (s : Stop) → w ≡ Err s → (x ≡ send_laid p x l v) × (m ≡ send_area p x l v)
    unfolding send_laid send_area written_of
    send_not s d = rw (lt-ltb x.count 3 h) (go (write_of p v l (100 * x.count)) (sym e.0 ∙ d), e.1)
      where
        go : (y : Write) → written_of y ≡ Err s → x ≡ laid_next x y
        go (laid k b) z = cc
        go (refused t) z = refl

  pub send_full : 3 ≤ x.count → (x ≡ send_laid p x l v) × (l ≡ send_area p x l v)
  unfolding send_laid send_area
  send_full h = rw (le-ltb x.count 3 h) (refl, refl)

-- a length fits 16 bits
pub written_small : (p : Profile) (v : Value) (l : List ℕ) (b n : ℕ) (w : Result ℕ Stop) → w ≡ written_of (write_of p v l b) → w ≡ Ok n → n < 65536
unfolding written_of
written_small p v l b n w e d =
    let k = wrote_can p v l b (ap (λ (x : Result ℕ Stop). is_ok x) (sym e ∙ d)) in
    let c : ◌≡◌ {A = Result ℕ Stop} (Ok n) (Ok (length (bits_of p.air v))) = sym d ∙ e ∙ ap (λ (t : Write). written_of t) (can_write p v l b k) in
    let s : n ≡ length (bits_of p.air v) = cc in
    omega (arith, message_most p.air v k.valid, s)
