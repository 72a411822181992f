-- Document 01's number and values for each answer. Only refusals have a number there; the others are told apart by their place in this
-- list. How many messages were laid, and their lengths in bits, stand beside the answer (`Laid`).
use Rattle.std.specs.Prelude.{ℕ, List, [], ◌∷◌}
use Rattle.codec.specs.Stops.{no_stop}
use Rattle.codec.specs.declared.Stop.{Stop}
use Rattle.desk.specs.declared.Answer.{Answer}
use Rattle.desk.specs.declared.Answer.TheVariants as answer

-- the refusal's number, 0 for what is no refusal; which answer it is, 0 for a refusal; and its values, of a refusal the position and the
-- element, which a 4 alone has
pub record Paper : Type 0 where
  pub number : ℕ
  pub plain : ℕ
  pub values : List ℕ

abbrev pub refused_as : Stop → Paper
refused_as s = record { number = s.number; plain = 0; values = s.at ∷ s.element ∷ [] }

abbrev pub plain_as : ℕ → List ℕ → Paper
plain_as k values = record { number = 0; plain = k; values = values }

-- a state: 0 no record, 1 another post's, 2 active, 3 not active; an admission: the post and the place; a cancel: the post where the call
-- waited; a move: the post where it waits now
abbrev pub paper_of : Answer → Paper
paper_of (answer.Refused s) = refused_as s
paper_of answer.Acks = plain_as 1 []
paper_of (answer.State k) = plain_as 2 (k ∷ [])
paper_of answer.Free = plain_as 3 []
paper_of (answer.Admitted post place) = plain_as 4 (post ∷ place ∷ [])
paper_of answer.Proceed = plain_as 5 []
paper_of answer.Diverted = plain_as 6 []
paper_of answer.Rejected = plain_as 7 []
paper_of (answer.Cancelled post) = plain_as 8 (post ∷ [])
paper_of (answer.Moved post) = plain_as 9 (post ∷ [])

abbrev pub number_of : Answer → ℕ
number_of a = (paper_of a).number

-- the refusal whole
abbrev pub stop_of : Answer → Stop
stop_of (answer.Refused s) = s
stop_of answer.Acks = no_stop
stop_of (answer.State k) = no_stop
stop_of answer.Free = no_stop
stop_of (answer.Admitted post place) = no_stop
stop_of answer.Proceed = no_stop
stop_of answer.Diverted = no_stop
stop_of answer.Rejected = no_stop
stop_of (answer.Cancelled post) = no_stop
stop_of (answer.Moved post) = no_stop
