use borrow.Author.Rules.{rules}
use Rattle.validity.proofs.ValidLaws.{mask_some, mask_none}
use Rattle.validity.proofs.ack.mask_ok.Goals as goal

pub returns-then-count-eq0 : goal.returns-then-count-eq0
returns-then-count-eq0 c = mask_none _ _ (search rules) (search rules)

pub returns : goal.returns
returns c = mask_some _ _ (search rules) (search rules)
