-- What a line of a script asks for: `line_of`, for every line. A line of another shape is `Unknown`.
use Rattle.std.specs.Prelude.{ℕ, Bool, true, false, cond, List, [], ◌∷◌, eqb, leb, length, get_or}
use Rattle.profile.specs.Rules.{no_profile}
use Rattle.places.specs.Held.{no_place}
use Rattle.desk.specs.declared.Event.TheVariants as event
use Rattle.lines.specs.Shape.{no_bytes, hex_at}
use Rattle.script.specs.Shape.{starts_with, numbers_at}
use Rattle.script.specs.Profiles.{profile_of, pairs_in, is_profile, is_pairs, rows_of}
use Rattle.script.specs.declared.Line.{Line}
use Rattle.script.specs.declared.Task.{Task}
use Rattle.script.specs.declared.Task.TheVariants as task
use Rattle.script.specs.declared.shape.Numbers.{Numbers}

-- ---- the tasks that are numbers alone, by how many there are and the largest that each may be

abbrev pub when : Bool → Task → Task
when test o = cond test o task.Unknown

-- I INUSE SSI EXT POST ACTIVE
unfoldable pub record_task : Numbers → Task
record_task n =
    when (eqb n.count 6)
    (when (leb (get_or n.number 0 0) 255)
    (when (leb (get_or n.number 1 0) 1)
    (when (leb (get_or n.number 4 0) 255)
    (when (leb (get_or n.number 5 0) 1)
    (task.Lend (get_or n.number 0 0)
    (record {
      in_use = eqb (get_or n.number 1 0) 1;
      ssi = get_or n.number 2 0;
      extension = get_or n.number 3 0;
      post = get_or n.number 4 0;
      active = eqb (get_or n.number 5 0) 1;
    }))))))

-- CALLER EXT CALLED EXT ID [CAUSE]: a cause that is left out is 0, as the row is beyond its count
unfoldable pub set_up_task : Numbers → Task
set_up_task n =
    when (leb 5 n.count)
    (when (leb n.count 6)
    (task.Call
    (event.SetUp (record { ssi = get_or n.number 0 0; extension = get_or n.number 1 0 })
    (record { ssi = get_or n.number 2 0; extension = get_or n.number 3 0 })
    (get_or n.number 4 0)
    (get_or n.number 5 0))))

-- P ID
unfoldable pub reject_task : Numbers → Task
reject_task n = when (eqb n.count 2) (task.Call (event.Reject (get_or n.number 0 0) (get_or n.number 1 0)))

-- ID
unfoldable pub cancel_task : Numbers → Task
cancel_task n = when (eqb n.count 1) (task.Call (event.Cancel (get_or n.number 0 0)))

-- BYTES
unfoldable pub out_task : Numbers → Task
out_task n = when (eqb n.count 1) (when (leb (get_or n.number 0 0) 300) (task.Room (get_or n.number 0 0)))

-- I ID POST
unfoldable pub place_task : Numbers → Task
place_task n =
    when (eqb n.count 3)
    (when (leb (get_or n.number 0 0) 31)
    (when (leb (get_or n.number 1 0) 65535)
    (when (leb (get_or n.number 2 0) 255)
    (task.Fill (get_or n.number 0 0) (record { used = true; identifier = get_or n.number 1 0; post = get_or n.number 2 0; more = false; second = 0; cause = 0 })))))

-- I: the place is free, all zero
unfoldable pub unplace_task : Numbers → Task
unplace_task n =
    when (eqb n.count 1)
    (when (leb (get_or n.number 0 0) 31) (task.Fill (get_or n.number 0 0) no_place))

-- I POST
unfoldable pub second_task : Numbers → Task
second_task n =
    when (eqb n.count 2)
    (when (leb (get_or n.number 0 0) 31) (when (leb (get_or n.number 1 0) 255) (task.Second (get_or n.number 0 0) (get_or n.number 1 0))))

-- I CAUSE
unfoldable pub cause_task : Numbers → Task
cause_task n =
    when (eqb n.count 2)
    (when (leb (get_or n.number 0 0) 31) (when (leb (get_or n.number 1 0) 255) (task.Cause (get_or n.number 0 0) (get_or n.number 1 0))))

-- ---- the lines

-- nothing beside the task
unfoldable pub plain_line : Task → Line
plain_line o = record { task = o; profile = no_profile; count = 0; bytes = no_bytes }

-- P BITS, and the first `count` of the bytes lent
unfoldable pub message_line : Numbers → ℕ → List ℕ → Line
message_line n count bytes =
    record { task = task.Call (event.Message (get_or n.number 0 0) (get_or n.number 1 0)); profile = no_profile; count = count; bytes = bytes }

-- P BITS [HEX]: after a space there is at least one byte
unfoldable pub post_line : Numbers → List ℕ → Line
post_line n l =
    cond (eqb n.count 2)
    (cond (eqb n.next 0) (message_line n 0 no_bytes)
    (cond (leb 1 (hex_at l n.next).count) (message_line n (hex_at l n.next).count (hex_at l n.next).bytes) (plain_line task.Unknown)))
    (plain_line task.Unknown)

unfoldable pub profile_line : Numbers → Line
profile_line n =
    cond (is_profile (get_or n.number 20 0) (pairs_in n.count)) (record { task = task.Open; profile = profile_of n.number (pairs_in n.count); count = 0; bytes = no_bytes })
    (plain_line task.Unknown)

unfoldable pub shares_line : Numbers → Line
shares_line n = cond (is_pairs n.count) (record { task = task.Shares; profile = rows_of n.number; count = 0; bytes = no_bytes }) (plain_line task.Unknown)

-- by the keyword; in comments, what the bytes are
unfoldable pub task_of : List ℕ → Task
task_of l =
    -- `setup `
    cond (starts_with l (115 ∷ 101 ∷ 116 ∷ 117 ∷ 112 ∷ 32 ∷ [])) (set_up_task (numbers_at 40 l 6))
    -- `reject `
    (cond (starts_with l (114 ∷ 101 ∷ 106 ∷ 101 ∷ 99 ∷ 116 ∷ 32 ∷ [])) (reject_task (numbers_at 40 l 7))
    -- `cancel `
    (cond (starts_with l (99 ∷ 97 ∷ 110 ∷ 99 ∷ 101 ∷ 108 ∷ 32 ∷ [])) (cancel_task (numbers_at 40 l 7))
    -- `record `
    (cond (starts_with l (114 ∷ 101 ∷ 99 ∷ 111 ∷ 114 ∷ 100 ∷ 32 ∷ [])) (record_task (numbers_at 40 l 7))
    -- `out `
    (cond (starts_with l (111 ∷ 117 ∷ 116 ∷ 32 ∷ [])) (out_task (numbers_at 40 l 4))
    -- `place `
    (cond (starts_with l (112 ∷ 108 ∷ 97 ∷ 99 ∷ 101 ∷ 32 ∷ [])) (place_task (numbers_at 40 l 6))
    -- `unplace `
    (cond (starts_with l (117 ∷ 110 ∷ 112 ∷ 108 ∷ 97 ∷ 99 ∷ 101 ∷ 32 ∷ [])) (unplace_task (numbers_at 40 l 8))
    -- `second `
    (cond (starts_with l (115 ∷ 101 ∷ 99 ∷ 111 ∷ 110 ∷ 100 ∷ 32 ∷ [])) (second_task (numbers_at 40 l 7))
    -- `cause `
    (cond (starts_with l (99 ∷ 97 ∷ 117 ∷ 115 ∷ 101 ∷ 32 ∷ [])) (cause_task (numbers_at 40 l 6))
    -- `dump`, the whole line
    (cond (starts_with l (100 ∷ 117 ∷ 109 ∷ 112 ∷ [])) (when (eqb (length l) 4) task.Dump) task.Unknown)))))))))

unfoldable pub line_of : List ℕ → Line
line_of l =
    -- `post `
    cond (starts_with l (112 ∷ 111 ∷ 115 ∷ 116 ∷ 32 ∷ [])) (post_line (numbers_at 2 l 5) l)
    -- `profile `
    (cond (starts_with l (112 ∷ 114 ∷ 111 ∷ 102 ∷ 105 ∷ 108 ∷ 101 ∷ 32 ∷ [])) (profile_line (numbers_at 40 l 8))
    -- `shares `
    (cond (starts_with l (115 ∷ 104 ∷ 97 ∷ 114 ∷ 101 ∷ 115 ∷ 32 ∷ [])) (shares_line (numbers_at 40 l 7)) (plain_line (task_of l))))
