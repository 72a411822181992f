-- A block of bytes: where a line ends in it, and a text put into it at an index.
use Rattle.std.specs.Prelude.{ℕ, suc, ◌+◌, ◌-◌, min, ◌≡◌, cond, List, [], ◌∷◌, eqb, length, take, drop}
use Rattle.std.proofs.lemmas.List.Edits.{sets}

-- how many bytes stand before the first LF, all of them where there is none
unfoldable pub before_lf : List ℕ → ℕ
before_lf [] = 0
before_lf (x ∷ xs) = cond (eqb x 10) 0 (suc (before_lf xs))

-- the end of the line that goes on at an index
unfoldable pub line_end : List ℕ → ℕ → ℕ
line_end block from = from + before_lf (drop from block)

-- as many bytes of a text as there is room for
unfoldable pub fits : List ℕ → ℕ → List ℕ → ℕ
fits block at text = min (length block - at) (length text)

unfoldable pub text_end : List ℕ → ℕ → List ℕ → ℕ
text_end block at text = at + fits block at text

unfoldable pub put_text : List ℕ → ℕ → List ℕ → List ℕ
put_text block at text = sets block at (take (fits block at text) text)

-- these bytes were put into the block at an index, as far as there is room, and end at the next
pub record Wrote (block : List ℕ) (at : ℕ) (after : List ℕ) (next : ℕ) (bytes : List ℕ) : Type 0 where
  pub ends : next ≡ text_end block at bytes
  pub holds : after ≡ put_text block at bytes
