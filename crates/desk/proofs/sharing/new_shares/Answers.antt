use Rattle.std.proofs.Common.{◌≡◌, rules, length}
use Rattle.desk.proofs.ChangeLaws.{new_is}
use Rattle.desk.proofs.sharing.new_shares.Goals as goal

pub returns : goal.returns
returns c =
    let n : length c.args.rows ≡ 8 = search rules in
    new_is c.args.posts c.min-given.result c.args.rows c.copy_from_slice.new.self n c.min-given.ensures c.copy_from_slice.ensures.after
