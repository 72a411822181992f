-- Bytes one after the other, of which the first 1,152 are kept: a line that comes in pieces, or the words of an answer.
use Rattle.std.specs.Prelude.{ℕ, ◌+◌, ◌-◌, min, List, length, take, replicate}
use Rattle.std.proofs.lemmas.List.Edits.{sets}
use Rattle.blocks.specs.declared.Text.{Text}

unfoldable pub no_room : List ℕ
no_room = replicate 1152 0

unfoldable pub no_text : Text
no_text = record { len = 0; bytes = no_room }

-- the first 1,152 of these bytes, and zeros
unfoldable pub text_of : List ℕ → Text
text_of xs = record { len = length (take 1152 xs); bytes = sets no_room 0 (take 1152 xs) }

-- as many more bytes as there is room for
unfoldable pub room_for : Text → List ℕ → ℕ
room_for text piece = min (1152 - text.len) (length piece)

unfoldable pub keep_of : Text → List ℕ → Text
keep_of text piece = record { len = text.len + room_for text piece; bytes = sets text.bytes text.len (take (room_for text piece) piece) }
