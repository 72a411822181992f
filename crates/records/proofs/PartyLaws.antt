-- Who restricts a call, and whose post it is for. Assumes nothing.
use Prim.Native.Nat.{ℕ, zero, suc, ◌+◌, ◌<◌, ◌≤◌}
use mathlib.Core.Path.{◌≡◌, refl, sym, ap, ◌∙◌}
use mathlib.Core.Bool.{Bool, true, false, not, cond}
use mathlib.Core.List.{List, [], ◌∷◌}
use native.Mathlib.Omega.{arith}
use native.Mathlib.Numerals.{add-one}
use lib.ListN.{length, get_or, take, drop, drop_of_length-le}
use lib.Seq.{drop-cons}
use lib.Dec.{eqb}
use borrow.Author.Tests.{ltb-true, eqb-false}
use Rattle.std.proofs.Common.{Option, Some, None}
use Rattle.std.specs.Bool.{then_some}
use Rattle.std.specs.Option.{is_some, option_and_then, option_eq, option_map}
use Rattle.codec.specs.Codec.{both}
use Rattle.codec.proofs.Good.{both_left, both_right, not_both}
use Rattle.records.specs.Records.{row_of, record_of, record_ok, all_ok, records_ok, no_party, party_of, restricted_by, restricted_of, restricts, restricts_by, is_restricted, post_by, post_for, second_of, restricting, party_by}
use Rattle.records.specs.declared.Record.{Record}
use Rattle.records.specs.declared.Identity.{Identity}
use Rattle.records.specs.declared.Party.{Party}
use Rattle.records.proofs.RecordLaws.{Lowest, is_it, record_lowest}

by_record : (rows : List Record) (f : Option ℕ) (next : Party) → restricted_by rows f next ≡ cond (restricts_by rows f) (record { found = true; post = post_by rows f }) next
unfolding party_of
by_record rows None next = refl
by_record rows (Some i) next = refl

-- the call is for the caller's post if the caller is restricted, else for the called party's if that one is, else for none
pub restricted_is : (rows : List Record) (caller called : Identity)
    → restricted_of rows (caller ∷ called ∷ [])
    ≡ cond (is_restricted rows caller) (record { found = true; post = post_for rows caller })
    (cond (is_restricted rows called) (record { found = true; post = post_for rows called }) no_party)
unfolding restricted_of is_restricted post_for
restricted_is rows caller called =
    by_record rows (record_of rows caller) (restricted_by rows (record_of rows called) no_party) ∙ rw (by_record rows (record_of rows called) no_party) refl

-- ---- as the code finds it: what is left of the search at party k

unfoldable pub party_left : List Record → List Identity → ℕ → Party
party_left rows ids k = restricted_of rows (drop k ids)

pub party_start : (rows : List Record) (ids : List Identity) → restricted_of rows ids ≡ party_left rows ids 0
unfolding party_left
party_start rows ids = refl

module _ (x : Party) (rows : List Record) (ids : List Identity) (k : ℕ) (v : x ≡ party_left rows ids k) where
  pub party_end : length ids ≤ k → no_party ≡ x
  unfolding party_left restricted_of
  party_end h = sym (v ∙ rw (drop_of_length-le ids h))

  module _ (d : Identity) (h : k < length ids) where
    -- no record: the next party's turn
    pub party_none : record_of rows (get_or ids k d) ≡ None → x ≡ party_left rows ids (k + 1)
    unfolding party_left restricted_of
    party_none e = v ∙ rw (add-one, drop-cons ids k d h) (rw e refl)

    module _ (i : ℕ) (e : record_of rows (get_or ids k d) ≡ Some i) where
      -- a record that does not restrict: the next party's turn
      pub party_free : (row_of rows i).active ≡ false → x ≡ party_left rows ids (k + 1)
      unfolding party_left restricted_of restricts
      party_free s = v ∙ rw (add-one, drop-cons ids k d h) (rw (e, s) refl)

      pub party_here : (row_of rows i).active ≡ true → party_by (Some (row_of rows i).post) ≡ x
      unfolding party_left restricted_of restricts party_of
      party_here s = sym (v ∙ rw (drop-cons ids k d h) (rw (e, s) refl))

-- a record restricts a call if its mark is set
module _ (rows : List Record) (id : Identity) (f : Option Record) (v : f ≡ option_map (row_of rows) (record_of rows id)) where
  by_holder : restricting rows id ≡ option_and_then (λ r. then_some r.active r.post) f
  unfolding restricting is_restricted post_for restricts
  by_holder = rw v (go (record_of rows id))
    where
      go : (g : Option ℕ) → then_some (restricts_by rows g) (post_by rows g) ≡ option_and_then (λ r. then_some r.active r.post) (option_map (row_of rows) g)
      go None = refl
      go (Some i) = refl

  pub restricting_none : f ≡ None → None ≡ restricting rows id
  restricting_none e = sym (by_holder ∙ rw e refl)

  pub restricting_some : (r : Record) → f ≡ Some r → then_some r.active r.post ≡ restricting rows id
  restricting_some r e = sym (by_holder ∙ rw e refl)

-- ---- where 15 does not come, a restricted party's post is one of the posts

ok_at : (posts : ℕ) (rows : List Record) (i : ℕ) → i < length rows → all_ok posts rows ≡ true → record_ok posts (row_of rows i) ≡ true
unfolding all_ok row_of
ok_at posts [] i h e = absurd (omega arith)
ok_at posts (r ∷ rows) zero h e = both_left _ _ e
ok_at posts (r ∷ rows) (suc i) h e = ok_at posts rows i (omega arith) (both_right (record_ok posts r) _ e)

in_use_post : (posts : ℕ) (r : Record) → record_ok posts r ≡ true → r.in_use ≡ true → r.post < posts
unfolding record_ok
in_use_post posts r e u = ltb-true r.post posts (both_left _ _ (rw u at e))

pub restricted_below : (posts : ℕ) (rows : List Record) (id : Identity) → all_ok posts rows ≡ true → is_restricted rows id ≡ true → post_for rows id < posts
unfolding is_restricted post_for
restricted_below posts rows id e = go (record_of rows id) (record_lowest rows id)
  where
    go : (f : Option ℕ) → Lowest rows id f → restricts_by rows f ≡ true → post_by rows f < posts
    go None l z = not_both z
    go (Some i) l z = in_use_post posts (row_of rows i) (ok_at posts rows i l.0 e) (is_it (row_of rows i) id l.1.0).0

-- so is the post that a call is for
pub party_below : (rows : List Record) (n posts : ℕ) (caller called : Identity) → records_ok rows n posts ≡ true
    → (restricted_of (take n rows) (caller ∷ called ∷ [])).found ≡ true → (restricted_of (take n rows) (caller ∷ called ∷ [])).post < posts
unfolding records_ok
party_below rows n posts caller called e = rw (restricted_is (take n rows) caller called) (go (is_restricted (take n rows) caller) refl (is_restricted (take n rows) called) refl)
  where
    go : (a : Bool) → is_restricted (take n rows) caller ≡ a → (b : Bool) → is_restricted (take n rows) called ≡ b
        → (cond a (record { found = true; post = post_for (take n rows) caller }) (cond b (record { found = true; post = post_for (take n rows) called }) no_party)).found ≡ true
        → (cond a (record { found = true; post = post_for (take n rows) caller }) (cond b (record { found = true; post = post_for (take n rows) called }) no_party)).post < posts
    go true u b v z = restricted_below posts (take n rows) caller (both_right _ _ e) u
    go false u true v z = restricted_below posts (take n rows) called (both_right _ _ e) v
    go false u false v z = not_both z

-- ---- the post that is asked second

-- as the code finds it, of the posts of both where their records restrict
abbrev second_by : Option ℕ → Option ℕ → Option ℕ
second_by f g = cond (is_some f) (cond (not (option_eq eqb f g)) g None) None

module _ (rows : List Record) (caller called : Identity) (f g : Option ℕ) (v : f ≡ restricting rows caller) (w : g ≡ restricting rows called) where
  second_so : party_by (second_by f g) ≡ second_of rows caller called
  unfolding restricting second_of both
  second_so = rw (v, w) (go (is_restricted rows caller) (is_restricted rows called) (post_for rows caller) (post_for rows called))
    where
      other : (c : Bool) (q : ℕ) → party_by (cond (not c) (Some q) None) ≡ cond (not c) (record { found = true; post = q }) no_party
      other true q = refl
      other false q = refl

      go : (a b : Bool) (p q : ℕ) → party_by (second_by (then_some a p) (then_some b q))
          ≡ cond (both a (both b (not (eqb p q)))) (record { found = true; post = q }) no_party
      go true true p q = other (eqb p q) q
      go true false p q = refl
      go false b p q = refl

  pub second_there : is_some f ≡ true → not (option_eq eqb f g) ≡ true → party_by g ≡ second_of rows caller called
  second_there h k = rw (h, k) at second_so

  pub second_same : is_some f ≡ true → not (option_eq eqb f g) ≡ false → no_party ≡ second_of rows caller called
  second_same h k = rw (h, k) at second_so

  pub second_free : is_some f ≡ false → no_party ≡ second_of rows caller called
  second_free h = rw h at second_so

-- what it says: both are restricted, and the called party's post, which it is, is another than the caller's
pub record IsSecond (rows : List Record) (caller called : Identity) (post : ℕ) : Type 0 where
  pub caller_restricted : is_restricted rows caller ≡ true
  pub called_restricted : is_restricted rows called ≡ true
  pub is : post ≡ post_for rows called
  pub other : post_for rows caller ≡ post → ⊥

pub second_is : (rows : List Record) (caller called : Identity) → (second_of rows caller called).found ≡ true → IsSecond rows caller called (second_of rows caller called).post
unfolding second_of both
second_is rows caller called = go (is_restricted rows caller) refl (is_restricted rows called) refl (eqb (post_for rows caller) (post_for rows called)) refl
  where
    go : (a : Bool) → is_restricted rows caller ≡ a → (b : Bool) → is_restricted rows called ≡ b → (c : Bool) → eqb (post_for rows caller) (post_for rows called) ≡ c
        → (cond (both a (both b (not c))) (record { found = true; post = post_for rows called }) no_party).found ≡ true
        → IsSecond rows caller called (cond (both a (both b (not c))) (record { found = true; post = post_for rows called }) no_party).post
    go true u true v false w z =
        record { caller_restricted = u; called_restricted = v; is = refl; other = eqb-false (post_for rows caller) (post_for rows called) w }
    go true u true v true w z = not_both z
    go true u false v c w z = not_both z
    go false u b v c w z = not_both z

-- and another than the post that the call is for
pub second_other : (rows : List Record) (caller called : Identity) → (second_of rows caller called).found ≡ true
    → (restricted_of rows (caller ∷ called ∷ [])).post ≡ (second_of rows caller called).post → ⊥
second_other rows caller called z e =
    let s = second_is rows caller called z in
    let for : (restricted_of rows (caller ∷ called ∷ [])).post ≡ post_for rows caller = ap (λ (x : Party). x.post) (restricted_is rows caller called) ∙ rw s.caller_restricted refl in
    s.other (sym for ∙ e)

pub second_below : (rows : List Record) (n posts : ℕ) (caller called : Identity) → records_ok rows n posts ≡ true
    → (second_of (take n rows) caller called).found ≡ true → (second_of (take n rows) caller called).post < posts
unfolding records_ok
second_below rows n posts caller called e z =
    let s = second_is (take n rows) caller called z in
    rw s.is (restricted_below posts (take n rows) called (both_right _ _ e) s.called_restricted)
