-- The walk over the identities that marks records, and what it leaves. Assumes nothing.
use Prim.Native.Nat.{ℕ, ◌+◌, ◌<◌, ◌≤◌}
use mathlib.Core.Path.{◌≡◌, refl, sym, ◌∙◌}
use mathlib.Core.Bool.{Bool, true, false, ◌||◌, or-true, or-false, or_assoc}
use mathlib.Core.List.{List, [], ◌∷◌}
use mathlib.Core.Logic.{⊎_elim}
use native.Mathlib.Numerals.{add-one}
use native.Mathlib.Omega.{arith}
use lib.ListN.{length, get_or, drop, length-set, length-replicate, get_or-replicate, drop_of_length-le}
use lib.Seq.{drop-cons, get_or-set_same, get_or-set_other}
use borrow.Author.Tests.{eq-eqb, ne_eqb}
use Rattle.bits.proofs.SetLaws.{eq_or}
use Rattle.profile.specs.declared.Air.{Air}
use Rattle.message.specs.declared.Group.{Group}
use Rattle.records.specs.declared.Record.{Record}
use Rattle.records.specs.declared.Identity.{Identity}
use Rattle.records.specs.declared.Marks.{Marks}
use Rattle.std.proofs.Common.{Option, Some, None}
use Rattle.records.specs.Identities.{no_identity, identity_at, count_of, identities_of}
use Rattle.records.specs.Marking.{accepted_of, unmarked, nobody_marked, with_by, with_mark, mark_all, marks_of, is_at, wanted}
use Rattle.records.proofs.IdentityLaws.{length_identities, identities_at}

-- ---- the walk: what is left at identity i

unfoldable pub marks_left : Air → Group → List Record → ℕ → Marks → ℕ → Marks
marks_left air g rows post ms i = mark_all rows post ms (drop i (identities_of air g))

pub marks_start : (air : Air) (g : Group) (rows : List Record) (post : ℕ) (to : Bool) (ms : Marks) → ms ≡ nobody_marked to
    → marks_of to rows post (identities_of air g) ≡ marks_left air g rows post ms 0
unfolding marks_of marks_left
marks_start air g rows post to ms e = rw e

module _ (x : Marks) (air : Air) (g : Group) (rows : List Record) (post : ℕ) (ms : Marks) (i : ℕ) (v : x ≡ marks_left air g rows post ms i) (n : ℕ) (m : n ≡ count_of air g) where
  pub marks_more : (id : Identity) (f : Option ℕ) (next : Marks) → i < n → id ≡ identity_at air g i → f ≡ accepted_of rows post id → next ≡ with_mark ms f
      → x ≡ marks_left air g rows post next (i + 1)
  unfolding mark_all marks_left
  marks_more id f next h d e w =
      let k : i < count_of air g = omega arith in
      let l : i < length (identities_of air g) = rw (length_identities air g) k in
      let z : f ≡ accepted_of rows post (get_or (identities_of air g) i no_identity) = e ∙ rw d (rw (identities_at air g i k) refl) in
      v ∙ rw (add-one, w, z, drop-cons (identities_of air g) i no_identity l)

  pub marks_end : n ≤ i → ms ≡ x
  unfolding mark_all marks_left
  marks_end h =
      let l : length (identities_of air g) ≤ i = rw (length_identities air g) (omega arith) in
      sym (v ∙ rw (drop_of_length-le (identities_of air g) l))

-- ---- marks-at: record j's mark is wanted exactly if it is the accepted record of one of the identities

one_at : (at : List Bool) (f : Option ℕ) (j : ℕ) → j < length at → get_or (with_by at f) j false ≡ get_or at j false || is_at j f
one_at at None j h = sym (or-false (get_or at j false))
one_at at (Some i) j h =
    ⊎_elim (λ e. rw (eq-eqb i j e, e) (get_or-set_same at j true false h ∙ sym (or-true (get_or at j false))))
    (λ n. rw (ne_eqb i j n, get_or-set_other at i j true false (λ e. n (sym e))) (sym (or-false (get_or at j false)))) (eq_or i j)

one_length : (at : List Bool) (f : Option ℕ) → length (with_by at f) ≡ length at
one_length at None = refl
one_length at (Some i) = length-set at i true

all_at : (rows : List Record) (post : ℕ) (ms : Marks) (ids : List Identity) (j : ℕ) → j < length ms.at
    → get_or (mark_all rows post ms ids).at j false ≡ get_or ms.at j false || wanted rows post ids j
unfolding mark_all with_mark wanted
all_at rows post ms [] j h = sym (or-false (get_or ms.at j false))
all_at rows post ms (id ∷ ids) j h =
    all_at rows post (with_mark ms (accepted_of rows post id)) ids j (rw (one_length ms.at (accepted_of rows post id)) h)
    ∙ rw (one_at ms.at (accepted_of rows post id) j h) (or_assoc (get_or ms.at j false) (is_at j (accepted_of rows post id)) (wanted rows post ids j))

pub marks_at : (to : Bool) (rows : List Record) (post : ℕ) (ids : List Identity) (j : ℕ) → j < 128 → get_or (marks_of to rows post ids).at j false ≡ wanted rows post ids j
unfolding marks_of nobody_marked unmarked
marks_at to rows post ids j h = all_at rows post (nobody_marked to) ids j (rw (length-replicate 128 false) h) ∙ rw (get_or-replicate 128 j false false h) refl

-- ---- marks-to: and it becomes what was said

all_to : (rows : List Record) (post : ℕ) (ms : Marks) (ids : List Identity) → (mark_all rows post ms ids).mark ≡ ms.mark
unfolding mark_all with_mark
all_to rows post ms [] = refl
all_to rows post ms (id ∷ ids) = all_to rows post (with_mark ms (accepted_of rows post id)) ids

pub marks_to : (to : Bool) (rows : List Record) (post : ℕ) (ids : List Identity) → (marks_of to rows post ids).mark ≡ to
unfolding marks_of nobody_marked
marks_to to rows post ids = all_to rows post (nobody_marked to) ids
