-- What a writer leaves, wherever it starts and whether the bits fit or not. The next position is a machine number and runs on past
-- 2 ^ 64 to 0; the bits stand in the area if there is room for them.
use Rattle.std.specs.Prelude.{◌≡◌, ℕ, ◌+◌, ◌*◌, ◌%◌, ◌^◌, ◌<◌, ◌≤◌, List, length}
use Rattle.bits.specs.Puts.{put_bits}

-- the bits bs, from position at on, lie in the bytes l
pub record Room (l : List ℕ) (at : ℕ) (bs : List ℕ) : Type 0 where
  pub inside : at + length bs ≤ 8 * length l
  pub most : at + length bs < 2 ^ 64

-- l became m where the bits bs were written from position at on, and p is the next position
pub record Wrote (l m : List ℕ) (at p : ℕ) (bs : List ℕ) : Type 0 where
  pub next : p ≡ (at + length bs) % 2 ^ 64
  pub same : length m ≡ length l
  pub area : Room l at bs → m ≡ put_bits l at bs
