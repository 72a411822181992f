-- A message that was drawn from a value's bytes: what is asked of it before it goes out, and what its going out leaves.
use Rattle.std.specs.Prelude.{◌≡◌, ℕ, ◌<◌, ◌≤◌, List, length, take, ◌≢◌, slice_index}
use Rattle.layouts.specs.Values.{value_size}
use Rattle.writing.specs.Writing.{laid}
use Rattle.console.specs.Console.{cad_read_of, cad_read_area, cad_write}

-- the bytes from one index to another are the same in both
abbrev pub Alike : List ℕ → List ℕ → ℕ → ℕ → Type 0
Alike a b from to = (j : ℕ) → from ≤ j → j < to → slice_index a j ≡ slice_index b j

-- the first bytes, so many, are those of another list, and bytes they are; the others stay
pub record Copied (old from : List ℕ) (count : ℕ) (new : List ℕ) : Type 0 where
  pub long : length new ≡ length old
  pub front : (j : ℕ) → j < count → slice_index new j ≡ slice_index from j
  pub bytes : (j : ℕ) → j < count → slice_index from j < 256
  pub rest : (j : ℕ) → count ≤ j → slice_index new j ≡ slice_index old j

-- n bits of a message are read, and as these bytes of a value
pub record ReadsBack (profile value message : List ℕ) (n : ℕ) : Type 0 where
  pub area : List ℕ
  pub read : cad_read_of profile message n area ≡ 0
  pub bytes : take value_size (cad_read_area profile message n area) ≡ value

-- with a length of 0 all stays; with any other, that is the message `cad_write` lays
pub record Drawn (profile value old new : List ℕ) (n : ℕ) : Type 0 where
  pub none : n ≡ 0 → new ≡ old
  pub some : (n ≢ 0) → cad_write profile value old ≡ laid new n
