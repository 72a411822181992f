-- A line that came in pieces, however many and however long: what is kept of them says what the whole line says.
--     keeps-none     nothing is kept of no line
--     keeps-more     what is kept after one more piece is kept of the line with that piece
--     keeps-says     what is kept of a line says what the line says
-- Assumes nothing.
use Rattle.std.proofs.Common.{◌≡◌, ℕ, ◌<◌, ◌≤◌, List, [], ◌++◌, length, take, refl, ap, ◌∙◌, ⊎_elim, arith, length-take-le, take_all}
use Rattle.bits.proofs.SetLaws.{lt_or}
use Rattle.blocks.specs.Texts.{no_text, text_of, keep_of}
use Rattle.blocks.proofs.TextLaws.{keep_text, kept_first}
use Rattle.lines.specs.Shape.{line_of}
use Rattle.lines.specs.Saying.{say_of, said_of}
use Rattle.lines.proofs.ShapeLaws.{long_other}

-- a line of the right shape has at most 1,029 bytes
pub said_kept : (l : List ℕ) → said_of (take 1152 l) ≡ said_of l
unfolding said_of
said_kept l = ⊎_elim long short (lt_or 1152 (length l))
  where
    long : 1152 < length l → say_of (line_of (take 1152 l)) ≡ say_of (line_of l)
    long h = rw (long_other (take 1152 l) (rw (length-take-le 1152 l (omega arith)) (omega arith)), long_other l (omega arith))

    short : length l ≤ 1152 → say_of (line_of (take 1152 l)) ≡ say_of (line_of l)
    short h = rw (take_all 1152 l h)

pub keeps_none : no_text ≡ text_of []
unfolding no_text text_of
keeps_none = refl

pub keeps_more : (p piece : List ℕ) → keep_of (text_of p) piece ≡ text_of (p ++ piece)
keeps_more p piece = keep_text p piece

pub keeps_says : (p : List ℕ) → said_of (take (text_of p).len (text_of p).bytes) ≡ said_of p
keeps_says p = ap (λ (l : List ℕ). said_of l) (kept_first p) ∙ said_kept p
