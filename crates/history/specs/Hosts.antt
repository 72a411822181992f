-- What a host does: any number of calls of `host::call`, with whatever records, message and output area it lends then, and of
-- `host::change_shares`, each on the desk that the one before left. Of each outcome nothing is known but what the contract says.
use Rattle.std.specs.Prelude.{ℕ, List, [], ◌∷◌, length}
use Rattle.profile.specs.declared.Share.{Share}
use Rattle.records.specs.declared.Record.{Record}
use Rattle.desk.specs.declared.Change.{Change}
use Rattle.desk.specs.declared.Desk.{Desk}
use Rattle.desk.specs.declared.Event.{Event}
use Rattle.host.specs.Lending.{loaded_of, Called, SharesChanged}
use Rattle.host.specs.declared.Told.{Told}
use Rattle.history.specs.Histories.{Call, Turn, one_call, one_change, Noted, call_noted, change_noted, History}
use Rattle.history.specs.Radio.{Entry}

-- a call of `host::call` that was made: what was lent beside the desk, what the host was told, and the desk, the records and the output
-- area afterwards
pub record Made : Type 0 where
  pub rows : List Record
  pub message : List ℕ
  pub area : List ℕ
  pub event : Event
  pub told : Told
  pub desk : Desk
  pub records : List Record
  pub output : List ℕ

-- its outcome, on this desk, is one that the contract allows
abbrev pub Promised : Desk → Made → Type 0
Promised d m = Called d m.rows m.message m.area m.event m.told m.desk m.records m.output

-- a change of the shares by `host::change_shares` that was made: what was asked for, what the host was told, and the desk afterwards; and
-- that its outcome is one that the contract allows
pub record Sold : Type 0 where
  pub rows : List Share
  pub told : Change
  pub desk : Desk

abbrev pub PromisedSale : Desk → Sold → Type 0
PromisedSale d m = SharesChanged d m.rows m.told m.desk

-- what a host does: either of them
pub data Deed : Type 0 where
  made : Made → Deed
  sold : Sold → Deed

abbrev pub PromisedDeed : Desk → Deed → Type 0
PromisedDeed d (made m) = Promised d m
PromisedDeed d (sold m) = PromisedSale d m

abbrev pub leaves : Deed → Desk
leaves (made m) = m.desk
leaves (sold m) = m.desk

-- the outcome of each of some, the first one first, is one that its contract allows
abbrev pub AllPromised : Desk → List Deed → Type 0
AllPromised d [] = Unit
AllPromised d (x ∷ deeds) = PromisedDeed d x × AllPromised (leaves x) deeds

-- the desk that they leave
unfoldable pub desk_left : Desk → List Deed → Desk
desk_left d [] = d
desk_left d (x ∷ deeds) = desk_left (leaves x) deeds

-- what an outsider writes down of a call, and of them all: the answer is the one that the host was told
abbrev pub call_of : Made → Call
call_of m = record { rows = loaded_of m.rows; count = length m.rows; message = m.message; area = m.area; event = m.event }

abbrev pub note_of : Deed → Noted
note_of (made m) = call_noted (call_of m) m.told.answer
note_of (sold m) = change_noted m.rows m.told

unfoldable pub history_of : List Deed → History
history_of [] = []
history_of (x ∷ deeds) = note_of x ∷ history_of deeds

-- the turns that they are
abbrev pub turn_of : Deed → Turn
turn_of (made m) = one_call (call_of m)
turn_of (sold m) = one_change m.rows

-- the same with what went out on the radio: the messages that the host was told of, in the output area that it lent
abbrev pub entry_by : Made → Entry
entry_by m = record { call = call_of m; answer = m.told.answer; laid = m.told.laid; output = m.output }

unfoldable pub log_by : List Deed → List Entry
log_by [] = []
log_by (made m ∷ deeds) = entry_by m ∷ log_by deeds
log_by (sold m ∷ deeds) = log_by deeds
