-- A part of a value is good, and a row's parts and options are and make the value. `w` is what those so far make of a blank value.
use Rattle.std.specs.Prelude.{ℕ, suc, Bool, true, cond, List, [], ◌∷◌, eqb, leb}
use Rattle.codec.specs.Codec.{both}
use Rattle.profile.specs.declared.Air.{Air}
use Rattle.message.specs.Values.{given_at, same_value}
use Rattle.message.specs.Rows.{part_c, get, copy_of, copy_option}
use Rattle.message.specs.declared.Value.{Value}
use Rattle.message.specs.declared.Part.{Part}
use Rattle.message.specs.declared.State.{State}

-- the state of an INTERROGATE ACK whose result is 1: no reason, activation and interception type of a bit each, basic services of two
unfoldable pub accepted_ok : State → Bool
accepted_ok s =
    both (eqb s.reason 0) (both (leb s.activation 1) (both (leb s.interception 1) (both (leb s.called 3) (leb s.calling 3))))

-- and of one whose result is 0: a reason of three bits, and nothing else
unfoldable pub not_accepted_ok : State → Bool
not_accepted_ok s =
    both (leb s.reason 7) (both (eqb s.activation 0) (both (eqb s.interception 0) (both (eqb s.called 0) (eqb s.calling 0))))

unfoldable pub part_ok : Air → Value → Part → Value → Bool
part_ok air w p v = (part_c air w p).ok (get p v)

-- the i-th option of a row: good where it is given
unfoldable pub option_ok : Air → ℕ → Value → Part → Value → Bool
option_ok air i w q v = cond (given_at i v) (part_ok air w q v) true

-- the options from the i-th on are good, and with them the value is made
unfoldable pub options_ok : Air → ℕ → Value → List Part → Value → Bool
options_ok air i w [] v = same_value w v
options_ok air i w (q ∷ qs) v = both (option_ok air i w q v) (options_ok air (suc i) (copy_option i q v w) qs v)

-- the parts ps are good, and the options qs after them
unfoldable pub parts_ok : Air → Value → List Part → List Part → Value → Bool
parts_ok air w [] qs v = options_ok air 0 w qs v
parts_ok air w (p ∷ ps) qs v = both (part_ok air w p v) (parts_ok air (copy_of p v w) ps qs v)
