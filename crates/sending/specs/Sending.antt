-- The messages that one call writes: message k, from 0, goes from byte 100 × k of the output area on, and the call's answer tells how
-- many there are and their lengths in bits.
use Rattle.std.specs.Prelude.{ℕ, ◌+◌, ◌*◌, cond, List, [], ◌∷◌, ltb, length, replicate, set}
use Rattle.profile.specs.declared.Air.{Air}
use Rattle.profile.specs.declared.Profile.{Profile}
use Rattle.message.specs.declared.Value.{Value}
use Rattle.writing.specs.Writing.{bits_of, lay_of, Write, laid, refused, write_of, area_of}
use Rattle.sending.specs.declared.Laid.{Laid}

-- ---- what a call lays, as the paper has it

-- message k and those after it, in the area l
unfoldable pub lay_from : Air → ℕ → List ℕ → List Value → List ℕ
lay_from air k l [] = l
lay_from air k l (v ∷ vs) = lay_from air (k + 1) (lay_of l (100 * k) (bits_of air v)) vs

unfoldable pub lay_all : Air → List ℕ → List Value → List ℕ
lay_all air l vs = lay_from air 0 l vs

-- no message
unfoldable pub no_laid : Laid
no_laid = record { count = 0; lengths = replicate 3 0 }

-- one more, of n bits; there are at most three
abbrev pub laid_more : Laid → ℕ → Laid
laid_more x n = record { count = x.count + 1; lengths = set x.lengths x.count n }

unfoldable pub laid_from : Air → Laid → List Value → Laid
laid_from air x [] = x
laid_from air x (v ∷ vs) = laid_from air (laid_more x (length (bits_of air v))) vs

unfoldable pub laid_of : Air → List Value → Laid
laid_of air vs = laid_from air no_laid vs

-- ---- what the code does, also where a message can't be written: then it is left out

abbrev pub laid_next : Laid → Write → Laid
laid_next x (laid m n) = laid_more x n
laid_next x (refused s) = x

unfoldable pub send_laid : Profile → Laid → List ℕ → Value → Laid
send_laid p x l v = cond (ltb x.count 3) (laid_next x (write_of p v l (100 * x.count))) x

unfoldable pub send_area : Profile → Laid → List ℕ → Value → List ℕ
send_area p x l v = cond (ltb x.count 3) (area_of l (write_of p v l (100 * x.count))) l

unfoldable pub all_laid : Profile → Laid → List ℕ → List Value → Laid
all_laid p x l [] = x
all_laid p x l (v ∷ vs) = all_laid p (send_laid p x l v) (send_area p x l v) vs

unfoldable pub all_area : Profile → Laid → List ℕ → List Value → List ℕ
all_area p x l [] = l
all_area p x l (v ∷ vs) = all_area p (send_laid p x l v) (send_area p x l v) vs
