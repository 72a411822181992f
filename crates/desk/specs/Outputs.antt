-- The messages that a call sends, the first one first, and what is said of the output area: message k stands from byte 100 × k on, and
-- takes as many bits as the answer tells.
use Rattle.std.specs.Prelude.{ℕ, ◌+◌, ◌*◌, ◌≤◌, ◌<◌, ◌≡◌, cond, List, [], ◌∷◌, ◌⊎◌, get_or, take, drop}
use Rattle.codec.specs.Codec.{got}
use Rattle.profile.specs.declared.Profile.{Profile}
use Rattle.message.specs.Reading.{read_of}
use Rattle.message.specs.declared.Value.{Value}
use Rattle.writing.specs.Writing.{bytes_for}
use Rattle.records.specs.declared.Record.{Record}
use Rattle.sending.specs.declared.Laid.{Laid}
use Rattle.desk.specs.Orders.{answer_of}
use Rattle.desk.specs.Steps.{Spoken, asked_of, spoken_of, messages_by, acks_for, is_acks, post_of}
use Rattle.desk.specs.declared.Answer.{Answer}
use Rattle.desk.specs.declared.Desk.{Desk}
use Rattle.desk.specs.declared.Event.{Event}
use Rattle.desk.specs.declared.marking.Asked.{Asked}

-- what goes with an answer: the ACKs, or what any other answer sends
abbrev pub messages_for : Desk → List Record → ℕ → Asked → Spoken → Answer → List Value
messages_for d rows post asked s a = cond (is_acks a) (acks_for d rows post asked) (messages_by d s a)

-- what a call sends, where the output area has so many bytes
unfoldable pub sent_by : Desk → List Record → ℕ → List ℕ → ℕ → Event → List Value
sent_by d rows n l room e =
    messages_for d (take n rows) (post_of e) (asked_of d.profile l e) (spoken_of d.profile (take n rows) l e) (answer_of d rows n l room e)

-- message k has so many bits
abbrev pub bits_in : Laid → ℕ → ℕ
bits_in x k = get_or x.lengths k 0

-- byte i lies in none of the messages
abbrev pub Unfilled : Laid → ℕ → Type 0
Unfilled x i = (k : ℕ) → k < x.count → (i < 100 * k) ⊎ (100 * k + bytes_for (bits_in x k) ≤ i)

-- the messages from message k on are read from the area as these values
abbrev pub ReadBack : Profile → Laid → List ℕ → ℕ → List Value → Type 0
ReadBack p x area k [] = Unit
ReadBack p x area k (v ∷ vs) = (read_of p (drop (100 * k) area) (bits_in x k) ≡ got v (bits_in x k)) × ReadBack p x area (k + 1) vs
