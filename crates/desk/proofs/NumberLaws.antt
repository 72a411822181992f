-- An answer is known by document 01's number and values for it: two answers that have the same are the same. Assumes nothing.
use mathlib.Core.Path.{◌≡◌, refl, sym, ap, ◌∙◌}
use mathlib.Core.Bool.{cond}
use lib.Dec.{eqb}
use lib.ListN.{get_or}
use Rattle.desk.specs.Numbers.{Paper, paper_of}
use Rattle.desk.specs.declared.Answer.{Answer}
use Rattle.desk.specs.declared.Answer.TheVariants as answer

-- the answer that has a number and values
abbrev answer_for : Paper → Answer
answer_for x =
    cond (eqb x.plain 0) (answer.Refused (record { number = x.number; element = get_or x.values 1 0; at = get_or x.values 0 0 }))
    (cond (eqb x.plain 1) answer.Acks
    (cond (eqb x.plain 2) (answer.State (get_or x.values 0 0))
    (cond (eqb x.plain 3) answer.Free
    (cond (eqb x.plain 4) (answer.Admitted (get_or x.values 0 0) (get_or x.values 1 0))
    (cond (eqb x.plain 5) answer.Proceed
    (cond (eqb x.plain 6) answer.Diverted
    (cond (eqb x.plain 7) answer.Rejected
    (cond (eqb x.plain 8) (answer.Cancelled (get_or x.values 0 0)) (answer.Moved (get_or x.values 0 0))))))))))

back : (a : Answer) → answer_for (paper_of a) ≡ a
back (answer.Refused s) = refl
back answer.Acks = refl
back (answer.State k) = refl
back answer.Free = refl
back (answer.Admitted post place) = refl
back answer.Proceed = refl
back answer.Diverted = refl
back answer.Rejected = refl
back (answer.Cancelled post) = refl
back (answer.Moved post) = refl

pub paper_one : (a b : Answer) → paper_of a ≡ paper_of b → a ≡ b
paper_one a b e = sym (back a) ∙ ap (λ (x : Paper). answer_for x) e ∙ back b
