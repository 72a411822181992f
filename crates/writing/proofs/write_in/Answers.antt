use Rattle.std.proofs.Common.{arith, rules}
use Rattle.writing.proofs.LayLaws.{no_room, all_laid}
use Rattle.writing.proofs.LengthLaws.{message_most}
use Rattle.writing.proofs.write_in.Goals as goal

pub overflow_add-bits : goal.overflow_add-bits
overflow_add-bits c = omega (arith, c.length_of-bits.ensures, message_most c.args.air c.args.value c.requires)

pub returns-then-start-bits : goal.returns-then-start-bits
returns-then-start-bits c =
    no_room _ _ _ _ c.length_of-bits.ensures _ (search rules) c.refuse.ensures

pub returns : goal.returns
returns c =
    all_laid _ _ _ _ c.length_of-bits.ensures _ (search rules) c.lay.ensures
