use Rattle.layouts.proofs.ListLaws.{none_put}
use Rattle.layouts.proofs.PutLaws.{same_sets, value_put}
use Rattle.layouts.specs.Values.{value_bytes}
use Rattle.console.proofs.values.put_value.Goals as goal

pub shape_of-out-then-v-eq9 : goal.shape_of-out-then-v-eq9
shape_of-out-then-v-eq9 c =
    same_sets c.args.out.now _ 0 (value_bytes c.args.v) (value_put c.args.v c.put_group.ensures.1 c.put_group-2.ensures.1 c.args.out.now _ _ _ _ _ _ _ _ _ c.put_byte.ensures c.put_group.ensures.0 c.put_flag.ensures c.put_number.ensures c.put_first.ensures c.put_group-2.ensures.0 c.put_more.ensures c.put_types.ensures c.put_lists.ensures)

pub returns-then-v-eq9 : goal.returns-then-v-eq9
returns-then-v-eq9 c =
    value_put c.args.v c.put_group.ensures.1 c.put_group-2.ensures.1 c.args.out.now _ _ _ _ _ _ _ _ _ c.put_byte.ensures c.put_group.ensures.0 c.put_flag.ensures c.put_number.ensures c.put_first.ensures c.put_group-2.ensures.0 c.put_more.ensures c.put_types.ensures c.put_lists.ensures

pub shape_of-out : goal.shape_of-out
shape_of-out c =
    same_sets c.args.out.now _ 0 (value_bytes c.args.v) (value_put c.args.v c.put_group.ensures.1 c.put_group-2.ensures.1 c.args.out.now _ _ _ _ _ _ _ _ _ c.put_byte.ensures c.put_group.ensures.0 c.put_flag.ensures c.put_number.ensures c.put_first.ensures c.put_group-2.ensures.0 c.put_more.ensures c.put_types.ensures (none_put _ _ _ c.zero_run.ensures (c.requires.1 c.if-v-eq9.false)))

pub returns : goal.returns
returns c =
    value_put c.args.v c.put_group.ensures.1 c.put_group-2.ensures.1 c.args.out.now _ _ _ _ _ _ _ _ _ c.put_byte.ensures c.put_group.ensures.0 c.put_flag.ensures c.put_number.ensures c.put_first.ensures c.put_group-2.ensures.0 c.put_more.ensures c.put_types.ensures (none_put _ _ _ c.zero_run.ensures (c.requires.1 c.if-v-eq9.false))
