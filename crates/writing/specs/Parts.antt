-- The bits of a part of a value, and of a row's parts and options. `w` is what those so far make of a blank value.
use Rattle.std.specs.Prelude.{ℕ, zero, suc, Bool, true, false, cond, ◌||◌, List, [], ◌∷◌, ◌++◌, length, ◌==◌}
use Rattle.bits.specs.Puts.{binary}
use Rattle.profile.specs.declared.Air.{Air}
use Rattle.message.specs.Values.{given_at}
use Rattle.message.specs.Rows.{part_c, get, copy_of, copy_option}
use Rattle.message.specs.declared.Value.{Value}
use Rattle.message.specs.declared.Part.{Part}

unfoldable pub part_bits : Air → Value → Part → Value → List ℕ
part_bits air w p v = (part_c air w p).bits (get p v)

-- of an INTERROGATE ACK: the reason, where the result is not 1; a number that is there where it is
abbrev pub why_not_bits : ℕ → ℕ → List ℕ
why_not_bits r reason = cond (r == 1) [] (binary 3 reason)

abbrev pub if_accepted_bits : ℕ → ℕ → ℕ → List ℕ
if_accepted_bits r w n = cond (r == 1) (binary w n) []

-- a bit, and these after it if it is 1
abbrev pub behind : Bool → List ℕ → List ℕ
behind true bs = binary 1 1 ++ bs
behind false bs = binary 1 0

-- one of the k options from the i-th on is there
unfoldable pub some_given : ℕ → ℕ → Value → Bool
some_given i zero v = false
some_given i (suc k) v = given_at i v || some_given (suc i) k v

-- the i-th option of a row, behind its P-bit
unfoldable pub option_bits : Air → ℕ → Value → Part → Value → List ℕ
option_bits air i w q v = behind (given_at i v) (part_bits air w q v)

unfoldable pub each_bits : Air → ℕ → Value → List Part → Value → List ℕ
each_bits air i w [] v = []
each_bits air i w (q ∷ qs) v = option_bits air i w q v ++ each_bits air (suc i) (copy_option i q v w) qs v

-- options behind one O-bit
unfoldable pub options_bits : Air → Value → List Part → Value → List ℕ
options_bits air w [] v = []
options_bits air w (q ∷ qs) v = behind (some_given 0 (length (q ∷ qs)) v) (each_bits air 0 w (q ∷ qs) v)

-- the parts ps, and the options qs after them
unfoldable pub parts_bits : Air → Value → List Part → List Part → Value → List ℕ
parts_bits air w [] qs v = options_bits air w qs v
parts_bits air w (p ∷ ps) qs v = part_bits air w p v ++ parts_bits air (copy_of p v w) ps qs v
