-- Whose mark a call changes: the records of the accepted identities of a request that is carried out, and none by any other call. What it
-- becomes is what was asked. Assumes nothing.
use Prim.Native.Nat.{ℕ}
use mathlib.Core.Path.{◌≡◌, refl, sym, ap, ◌∙◌}
use mathlib.Core.Bool.{Bool, true, false, cond}
use mathlib.Core.List.{List, [], ◌∷◌}
use mathlib.Core.Logic.{⊎_elim}
use native.Mathlib.Omega.{arith}
use lib.Dec.{ltb}
use lib.ListN.{length, get_or, take, length-set, length-replicate, get_or-replicate, get_or-eq_default}
use borrow.Author.Tests.{lt-ltb, le-ltb}
use Rattle.bits.proofs.SetLaws.{lt_or}
use Rattle.codec.specs.Codec.{both}
use Rattle.records.specs.Identities.{identities_of}
use Rattle.records.specs.Marking.{accepted_of, unmarked, nobody_marked, no_marks, with_by, with_mark, mark_all, marks_of, wanted}
use Rattle.records.specs.declared.Identity.{Identity}
use Rattle.records.specs.declared.Marks.{Marks}
use Rattle.records.specs.declared.Record.{Record}
use Rattle.std.proofs.Common.{Option, Some, None}
use Rattle.records.proofs.MarkLaws.{marks_at, marks_to}
use Rattle.desk.specs.Orders.{answer_of}
use Rattle.desk.specs.Steps.{asked_of, spoken_of, plain_step, acks_step, is_acks, step_by, post_of, step_of}
use Rattle.desk.specs.declared.Answer.{Answer}
use Rattle.desk.specs.declared.Desk.{Desk}
use Rattle.desk.specs.declared.Event.{Event}
use Rattle.desk.specs.declared.Stepped.{Stepped}
use Rattle.desk.proofs.AnswerLaws.{step_answer, step_acks}

-- ---- there are 128 marks

length_with : (at : List Bool) (f : Option ℕ) → length (with_by at f) ≡ length at
length_with at None = refl
length_with at (Some i) = length-set at i true

length_all : (rows : List Record) (post : ℕ) (ms : Marks) (ids : List Identity) → length (mark_all rows post ms ids).at ≡ length ms.at
unfolding mark_all with_mark
length_all rows post ms [] = refl
length_all rows post ms (id ∷ ids) = length_all rows post (with_mark ms (accepted_of rows post id)) ids ∙ length_with ms.at (accepted_of rows post id)

length_none : length unmarked ≡ 128
unfolding unmarked
length_none = length-replicate 128 false

length_marks : (to : Bool) (rows : List Record) (post : ℕ) (ids : List Identity) → length (marks_of to rows post ids).at ≡ 128
unfolding marks_of nobody_marked
length_marks to rows post ids = length_all rows post (nobody_marked to) ids ∙ length_none

-- ---- the mark of record i

-- of a request that is carried out: the accepted record of one of its identities
marks_there : (to : Bool) (rows : List Record) (post : ℕ) (ids : List Identity) (i : ℕ) → get_or (marks_of to rows post ids).at i false ≡ both (ltb i 128) (wanted rows post ids i)
unfolding both
marks_there to rows post ids i =
    ⊎_elim (λ h. rw (lt-ltb i 128 h) (marks_at to rows post ids i h))
    (λ h. rw (le-ltb i 128 h) (get_or-eq_default (marks_of to rows post ids).at false {n = i} (omega (arith, h, length_marks to rows post ids)))) (lt_or i 128)

none_there : (i : ℕ) → get_or no_marks.at i false ≡ false
unfolding no_marks nobody_marked unmarked
none_there i =
    ⊎_elim (λ h. get_or-replicate 128 i false false h) (λ h. get_or-eq_default unmarked false {n = i} (omega (arith, h, length_none))) (lt_or i 128)

module _ (d : Desk) (rows : List Record) (n : ℕ) (l area : List ℕ) (e : Event) where
  -- a call changes the mark of record i exactly if it is a request that is carried out, and i, one of the first 128, is the accepted record of
  -- one of the identities that it names
  pub marked_exactly : (i : ℕ)
      → get_or (step_of d rows n l area e).marks.at i false
      ≡ both (is_acks (step_of d rows n l area e).answer) (both (ltb i 128) (wanted (take n rows) (post_of e) (identities_of d.profile.air (asked_of d.profile l e).users) i))
  unfolding step_of step_by acks_step plain_step both
  marked_exactly i = go (is_acks (answer_of d rows n l (length area) e)) ∙ ap (λ (a : Answer). both (is_acks a) (both (ltb i 128) (wanted (take n rows) (post_of e) (identities_of d.profile.air (asked_of d.profile l e).users) i))) (sym (step_answer d rows n l area e))
    where
      go : (b : Bool)
          → get_or (cond b (acks_step d (take n rows) (post_of e) (asked_of d.profile l e)) (plain_step d (spoken_of d.profile (take n rows) l e) (answer_of d rows n l (length area) e))).marks.at i false
          ≡ both b (both (ltb i 128) (wanted (take n rows) (post_of e) (identities_of d.profile.air (asked_of d.profile l e).users) i))
      go true = marks_there (asked_of d.profile l e).mark (take n rows) (post_of e) (identities_of d.profile.air (asked_of d.profile l e).users) i
      go false = none_there i

  -- and then the mark becomes what the request asks
  pub marked_to : is_acks (step_of d rows n l area e).answer ≡ true → (step_of d rows n l area e).marks.mark ≡ (asked_of d.profile l e).mark
  unfolding acks_step
  marked_to h =
      ap (λ (s : Stepped). s.marks.mark) (step_acks d rows n l area e h)
      ∙ marks_to (asked_of d.profile l e).mark (take n rows) (post_of e) (identities_of d.profile.air (asked_of d.profile l e).users)
