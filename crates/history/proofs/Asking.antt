-- What posts without a console see. Over any history from an opened desk: whenever a call waits at a post, a REQUEST with its identifier and
-- cause was written when it came there, and no other for it since; whenever a call is cancelled, a CANCEL with its identifier is written,
-- and the answer names the post where it waited. Assumes nothing.
use Prim.Native.Nat.{ℕ, ◌+◌, ◌<◌, ◌≤◌}
use mathlib.Core.Path.{◌≡◌, refl, sym, ap, ◌∙◌, subst}
use mathlib.Core.Bool.{Bool, true, false, not, cond}
use mathlib.Core.List.{List, [], ◌∷◌, ◌++◌}
use mathlib.Core.Logic.{◌⊎◌, inl, inr, ⊎_elim}
use native.Mathlib.Omega.{arith}
use lib.Dec.{eqb}
use lib.ListN.{take}
use borrow.Author.Tests.{eq-eqb, eqb-true, ne_eqb, ltb-true, lt-ltb}
use Rattle.codec.specs.Codec.{both}
use Rattle.codec.proofs.Good.{both_true, both_left, both_right, not_both}
use Rattle.profile.specs.Counting.{one}
use Rattle.profile.specs.Rules.{profile_ok}
use Rattle.profile.specs.declared.Profile.{Profile}
use Rattle.profile.specs.declared.Shares.{Shares}
use Rattle.message.specs.Rows.{ack_row, table, row_in, row_of}
use Rattle.message.specs.Values.{blank}
use Rattle.message.specs.declared.Group.{Group}
use Rattle.message.specs.declared.Row.{Row}
use Rattle.message.specs.declared.Value.{Value}
use Rattle.places.specs.Held.{place_in}
use Rattle.places.specs.Spots.{place_of, moved_on}
use Rattle.places.proofs.SpotLaws.{spot_found, place_of_exactly}
use Rattle.records.specs.Outcomes.{outcomes_of, sorted_of}
use Rattle.records.specs.Records.{no_party}
use Rattle.records.specs.declared.Record.{Record}
use Rattle.records.specs.declared.Sorted.{Sorted}
use Rattle.sending.specs.Acks.{is_there, ack_v, ack_of, acks_of}
use Rattle.sending.specs.declared.Laid.{Laid}
use Rattle.desk.specs.Changes.{change_of}
use Rattle.desk.specs.Desks.{desk_with}
use Rattle.desk.specs.Notices.{intercepted, request_with, request_of, cancel_of}
use Rattle.desk.specs.Orders.{places_of}
use Rattle.desk.specs.Outputs.{ReadBack, messages_for, sent_by}
use Rattle.desk.specs.Steps.{asked_of, spoken_of, acks_for, post_of, identifier_of}
use Rattle.desk.specs.declared.Answer.{Answer}
use Rattle.desk.specs.declared.Answer.TheVariants as answer
use Rattle.desk.specs.declared.Desk.{Desk}
use Rattle.desk.specs.declared.marking.Asked as request
use Rattle.desk.proofs.AnswerLaws.{step_answer}
use Rattle.desk.proofs.Cancels.{cancelled_so}
use Rattle.desk.proofs.MarkingLaws.{event_ack}
use Rattle.desk.proofs.Outputs.{sent_count, sent_read}
use Rattle.desk.proofs.SetUps.{admitted_so}
use Rattle.history.specs.Histories.{Call, Turn, one_call, one_change, step_for, run_of, Waiting, without, cause_of, meant_by, answered, afterwards, waiting_after, count_by, is_waiting}
use Rattle.history.specs.Radio as radio
use Rattle.history.specs.Radio.{Entry, entry_of, log_of, Written, is_request_of, requests_in, Silent, AllSilent, Came, Asked, is_waiting_so, is_waiting_at}
use Rattle.history.proofs.WaitingLaws.{has_such, without_count, some_such, waiting_same}
use Rattle.history.proofs.RunLaws.{Along, along, spoken, afterwards_is, meant_same, moved_cause, first, Suits, read_air, meant_air, afterwards_air, Stands, stands_turn, stands_open}
use Rattle.history.proofs.Sharing.{waiting, next, suits}
use Rattle.history.proofs.Moving.{count_none}
use Rattle.history.proofs.AfterMoves.{fewer}

-- ---- tests that count

-- what passes the one passes the other
count_less : (t u : Waiting → Bool) → ((x : Waiting) → t x ≡ true → u x ≡ true) → (w : List Waiting) → count_by t w ≤ count_by u w
unfolding count_by
count_less t u h [] = omega arith
count_less t u h (x ∷ w) = go (t x) refl (u x) refl (count_less t u h w)
  where
    go : (a : Bool) → t x ≡ a → (b : Bool) → u x ≡ b → count_by t w ≤ count_by u w → one a + count_by t w ≤ one b + count_by u w
    go true e true f k = omega arith
    go true e false f k = not_both (sym f ∙ h x e)
    go false e true f k = omega arith
    go false e false f k = omega arith

-- ---- what one call writes

-- no type of an ACK is REQUEST's, which has options
ack_type : (t : ℕ) → row_of t ≡ ack_row → eqb t 11 ≡ false
unfolding row_of row_in table
ack_type t e = go (eqb t 11) refl
  where
    options_of_lem : row_of 11 ≡ ack_row → ⊥
    options_of_lem z = let n : ◌≡◌ {A = ℕ} 7 0 = ap (λ (r : Row). r.options) z in omega (arith, n)

    go : (b : Bool) → eqb t 11 ≡ b → b ≡ false
    go true z = absurd (options_of_lem (ap row_of (sym (eqb-true t 11 z)) ∙ e))
    go false z = refl

-- so no ACK is one
ack_not : (which t : ℕ) (users : Group) (b : Bool) (m r w : ℕ) → row_of t ≡ ack_row → is_request_of which (ack_v t users b m r w) ≡ false
unfolding ack_v blank both
ack_not which t users b m r w e = rw (ack_type t e) refl

acks_silent : (which : ℕ) (d : Desk) (rows : List Record) (post : ℕ) (asked : request.Asked) → row_of asked.ack ≡ ack_row → requests_in which (acks_for d rows post asked) ≡ 0
unfolding acks_for acks_of ack_of requests_in
acks_silent which d rows post asked e =
    either (is_there s 0) _ (ack_not which _ _ _ _ _ _ e) _ (either (is_there s 1) _ (ack_not which _ _ _ _ _ _ e) _ (last (is_there s 2) _ (ack_not which _ _ _ _ _ _ e)))
  where
    s : Sorted
    s = sorted_of (outcomes_of d.profile.air asked.users rows post)

    either : (b : Bool) (v : Value) → is_request_of which v ≡ false → (vs : List Value) → requests_in which vs ≡ 0 → requests_in which (cond b (v ∷ []) [] ++ vs) ≡ 0
    either true v e vs z = let k : one (is_request_of which v) ≡ 0 = ap one e in omega (arith, k, z)
    either false v e vs z = z

    last : (b : Bool) (v : Value) → is_request_of which v ≡ false → requests_in which (cond b (v ∷ []) []) ≡ 0
    last true v e = let k : one (is_request_of which v) ≡ 0 = ap one e in omega (arith, k)
    last false v e = refl

module _ (d : Desk) (c : Call) where
  -- the messages that go with an answer
  abbrev messages : Answer → List Value
  messages x =
      messages_for d (take c.count c.rows) (post_of c.event) (asked_of d.profile c.message c.event)
      (spoken_of d.profile (take c.count c.rows) c.message c.event) x

  pub written_by : (x : Answer) → (step_for d c).answer ≡ x → Written d.profile (entry_of d c) (messages x)
  unfolding sent_by
  written_by x z =
      subst (λ (y : Answer). Written d.profile (entry_of d c) (messages y)) (sym (step_answer d c.rows c.count c.message c.area c.event) ∙ z)
      (sent_count d c.rows c.count c.message c.area c.event, sent_read d c.rows c.count c.message c.area c.event)

  silent_by : (which : ℕ) (x : Answer) → (step_for d c).answer ≡ x → requests_in which (messages x) ≡ 0 → Silent d.profile which (entry_of d c)
  silent_by which x z e = record { messages = messages x; written = written_by x z; none = e }

-- ---- one call: what waits so afterwards came by it, with its REQUEST, or waited so before, and no REQUEST of it is written

module _ (d : Desk) (w : List Waiting) (a : Along d w) (c : Call) (which at cause : ℕ) where
  abbrev so : Waiting → Bool
  so x = both (eqb x.identifier which) (both (eqb x.post at) (eqb x.cause cause))

  abbrev meant : ℕ
  meant = identifier_of d.profile c.message c.event

  abbrev Either : Type 0
  Either = Came d.profile which at cause (entry_of d c) ⊎ ((0 < count_by so w) × Silent d.profile which (entry_of d c))

  record Is (x : Waiting) : Type 0 where
    named : x.identifier ≡ which
    there : x.post ≡ at
    caused : x.cause ≡ cause

  is_so : (x : Waiting) → so x ≡ true → Is x
  is_so x e =
      let r = both_right (eqb x.identifier which) _ e in
      record { named = eqb-true _ _ (both_left _ _ e); there = eqb-true _ _ (both_left _ _ r); caused = eqb-true _ _ (both_right (eqb x.post at) _ r) }

  -- a REQUEST of another call
  not_of : (i k : ℕ) → (i ≡ which → ⊥) → is_request_of which (request_with i k) ≡ false
  unfolding blank both
  not_of i k h = ne_eqb i which h

  -- the call was begun
  begun : (post place : ℕ) → (step_for d c).answer ≡ answer.Admitted post place
      → 0 < count_by so (record { identifier = meant; post = post; second = (spoken d w a c).second; cause = (spoken d w a c).cause } ∷ w) → Either
  unfolding count_by is_waiting requests_in blank both
  begun post place z = go (so new) refl
    where
      new : Waiting
      new = record { identifier = meant; post = post; second = (spoken d w a c).second; cause = (spoken d w a c).cause }

      other : 0 < count_by so w → meant ≡ which → ⊥
      other h e =
          let k = admitted_so d c.rows c.count c.message c.area post place c.event z in
          let l = count_less so (λ x. eqb x.identifier meant) (λ x f. eq-eqb x.identifier meant ((is_so x f).named ∙ sym e)) w in
          let t : is_waiting w meant ≡ true = lt-ltb 0 (count_by (λ x. eqb x.identifier meant) w) (omega (arith, h, l)) in
          not_both (sym k.new ∙ sym (waiting_same d.profile.shares (places_of d) w a.size a.sound a.same meant) ∙ t)

      silent : (meant ≡ which → ⊥) → requests_in which (intercepted ∷ request_with meant (spoken d w a c).cause ∷ []) ≡ 0
      silent h = let e : one (is_request_of which (request_with meant (spoken d w a c).cause)) ≡ 0 = ap one (not_of meant (spoken d w a c).cause h) in omega (arith, e)

      go : (b : Bool) → so new ≡ b → 0 < one b + count_by so w → Either
      go true e h =
          let i = is_so new e in
          inl (radio.admitted place (meant_same d w a c c.event ∙ i.named) (z ∙ ap (λ (q : ℕ). answer.Admitted q place) i.there)
          (subst (λ (v : Value). Written d.profile (entry_of d c) (intercepted ∷ v ∷ []))
          (ap (λ (n : ℕ). request_with n (spoken d w a c).cause) i.named ∙ ap (λ (n : ℕ). request_with which n) i.caused) (written_by d c (answer.Admitted post place) z)))
      go false e h = inr (omega (arith, h), silent_by d c which (answer.Admitted post place) z (silent (other (omega (arith, h)))))

  -- the call was moved
  shifted : (post : ℕ) → (step_for d c).answer ≡ answer.Moved post
      → 0 < count_by so (record { identifier = meant; post = post; second = no_party; cause = cause_of w meant } ∷ without meant w) → Either
  unfolding count_by requests_in blank both
  shifted post z = go (so new) refl
    where
      new : Waiting
      new = record { identifier = meant; post = post; second = no_party; cause = cause_of w meant }

      there : ℕ
      there = (place_of (places_of d) meant).place

      -- the call in the place has the identifier and the cause that the history knows
      same : request_of (moved_on (place_in (places_of d) there)) ≡ request_with meant (cause_of w meant)
      same =
          ap (λ (n : ℕ). request_with n (place_in (places_of d) there).cause) (first d w a c post z).same
          ∙ ap (λ (n : ℕ). request_with meant n) (sym (moved_cause d w a c post z))

      wrote : Written d.profile (entry_of d c) (request_with meant (cause_of w meant) ∷ [])
      wrote = subst (λ (v : Value). Written d.profile (entry_of d c) (v ∷ [])) same (written_by d c (answer.Moved post) z)

      other : 0 < count_by so (without meant w) → meant ≡ which → ⊥
      other h e =
          let k = without_count meant so w in
          let n = count_none (λ x. both (not (eqb x.identifier meant)) (so x)) (λ x. none x (eqb x.identifier which) refl) w in
          omega (arith, h, k, n)
        where
          none : (x : Waiting) (b : Bool) → eqb x.identifier which ≡ b → both (not (eqb x.identifier meant)) (both b (both (eqb x.post at) (eqb x.cause cause))) ≡ false
          none x true f = rw (eq-eqb x.identifier meant (eqb-true _ _ f ∙ sym e)) refl
          none x false f = never (not (eqb x.identifier meant))
            where
              never : (b : Bool) → both b false ≡ false
              never true = refl
              never false = refl

      silent : (meant ≡ which → ⊥) → requests_in which (request_with meant (cause_of w meant) ∷ []) ≡ 0
      silent h = let e : one (is_request_of which (request_with meant (cause_of w meant))) ≡ 0 = ap one (not_of meant (cause_of w meant) h) in omega (arith, e)

      go : (b : Bool) → so new ≡ b → 0 < one b + count_by so (without meant w) → Either
      go true e h =
          let i = is_so new e in
          inl (radio.moved (meant_same d w a c c.event ∙ i.named) (z ∙ ap answer.Moved i.there)
          (subst (λ (v : Value). Written d.profile (entry_of d c) (v ∷ []))
          (ap (λ (n : ℕ). request_with n (cause_of w meant)) i.named ∙ ap (λ (n : ℕ). request_with which n) i.caused) wrote))
      go false e h =
          let r : 0 < count_by so (without meant w) = omega (arith, h) in
          inr (omega (arith, r, fewer meant so w), record { messages = request_with meant (cause_of w meant) ∷ []; written = wrote; none = silent (other r) })

  -- any other answer
  quiet : (x : Answer) → (step_for d c).answer ≡ x → requests_in which (messages d c x) ≡ 0 → 0 < count_by so w → Either
  quiet x z e h = inr (h, silent_by d c which x z e)

  by_answer : (x : Answer) → (step_for d c).answer ≡ x
      → 0 < count_by so (answered (record { identifier = meant; second = (spoken d w a c).second; cause = (spoken d w a c).cause }) x w) → Either
  unfolding requests_in blank both
  by_answer (answer.Refused s) z h = quiet (answer.Refused s) z refl h
  by_answer answer.Acks z h = quiet answer.Acks z (acks_silent which d (take c.count c.rows) (post_of c.event) (asked_of d.profile c.message c.event) (event_ack d.profile c.message c.event)) h
  by_answer (answer.State k) z h = quiet (answer.State k) z refl h
  by_answer answer.Free z h = quiet answer.Free z refl h
  by_answer (answer.Admitted post place) z h = begun post place z h
  by_answer answer.Proceed z h = quiet answer.Proceed z refl (omega (arith, h, fewer meant so w))
  by_answer answer.Diverted z h = quiet answer.Diverted z refl (omega (arith, h, fewer meant so w))
  by_answer answer.Rejected z h = quiet answer.Rejected z refl (omega (arith, h, fewer meant so w))
  by_answer (answer.Cancelled post) z h = quiet (answer.Cancelled post) z refl (omega (arith, h, fewer meant so w))
  by_answer (answer.Moved post) z h = shifted post z h

  step_asked : 0 < count_by so (afterwards d.profile w c (step_for d c).answer) → Either
  step_asked h = by_answer (step_for d c).answer refl (subst (λ (l : List Waiting). 0 < count_by so l) (afterwards_is d w a c (step_for d c).answer) h)

-- ---- any number of them

abbrev AlongLog : Profile → ℕ → ℕ → ℕ → List Waiting → List Entry → Type 0
AlongLog p which at cause w h = Asked p which at cause h ⊎ ((0 < count_by (λ x. both (eqb x.identifier which) (both (eqb x.post at) (eqb x.cause cause))) w) × AllSilent p which h)

-- read by the profile at the opening, as by the one in force
module _ (p : Profile) (d : Desk) (s : Suits p d) where
  read_back_air : (x : Laid) (area : List ℕ) (k : ℕ) (vs : List Value) → ReadBack d.profile x area k vs → ReadBack p x area k vs
  read_back_air x area k [] r = tt
  read_back_air x area k (v ∷ vs) r = (sym (read_air p d s _ _) ∙ r.0, read_back_air x area (k + 1) vs r.1)

  written_air : (x : Entry) (vs : List Value) → Written d.profile x vs → Written p x vs
  written_air x vs r = (r.0, read_back_air x.laid x.output 0 vs r.1)

  silent_air : (which : ℕ) (x : Entry) → Silent d.profile which x → Silent p which x
  silent_air which x r = record { messages = r.messages; written = written_air x r.messages r.written; none = r.none }

  came_air : (which at cause : ℕ) (x : Entry) → Came d.profile which at cause x → Came p which at cause x
  came_air which at cause x (radio.admitted place m a r) =
      radio.admitted place (sym (meant_air p d s x.call.message x.call.event) ∙ m) a (written_air x (intercepted ∷ request_with which cause ∷ []) r)
  came_air which at cause x (radio.moved m a r) =
      radio.moved (sym (meant_air p d s x.call.message x.call.event) ∙ m) a (written_air x (request_with which cause ∷ []) r)

run_asked : (which at cause : ℕ) (p : Profile) (turns : List Turn) (d : Desk) (s : Shares) (w : List Waiting) → Stands p d s w
    → 0 < count_by (λ x. both (eqb x.identifier which) (both (eqb x.post at) (eqb x.cause cause))) (waiting_after p w (run_of d turns))
    → AlongLog p which at cause w (log_of d turns)
unfolding run_of waiting_after log_of
run_asked which at cause p [] d s w z h = inr (h, tt)
run_asked which at cause p (one_call c ∷ turns) d s w z h =
    ⊎_elim
    (λ asked. inl (radio.later (entry_of d c) (log_of (step_for d c).desk turns) asked))
    (λ r.
    ⊎_elim
    (λ came. inl (radio.last (entry_of d c) (log_of (step_for d c).desk turns) (came_air p d z.suits which at cause (entry_of d c) came) r.1))
    (λ k. inr (k.0, (silent_air p d z.suits which (entry_of d c) k.1, r.1)))
    (step_asked d w z.along c which at cause (waited r.0)))
    (run_asked which at cause p turns (step_for d c).desk s (afterwards p w c (step_for d c).answer) (stands_turn p d s w z (one_call c)) h)
  where
    so_here : Waiting → Bool
    so_here x = both (eqb x.identifier which) (both (eqb x.post at) (eqb x.cause cause))

    waited : 0 < count_by so_here (afterwards p w c (step_for d c).answer) → 0 < count_by so_here (afterwards d.profile w c (step_for d c).answer)
    waited k = subst (λ (v : List Waiting). 0 < count_by so_here v) (sym (afterwards_air p d z.suits w c (step_for d c).answer)) k
run_asked which at cause p (one_change rows ∷ turns) d s w z h =
    run_asked which at cause p turns (change_of d rows).desk _ w (stands_turn p d s w z (one_change rows)) h

-- ---- from an opened desk

module _ (p : Profile) (opens : profile_ok p ≡ true) (turns : List Turn) where
  -- whenever a call waits at a post, a REQUEST with its identifier and cause was written when it came there, and no other for it since
  pub waiting_asked : (which at cause : ℕ) → is_waiting_so (waiting p opens turns) which at cause ≡ true → Asked p which at cause (log_of (desk_with p) turns)
  unfolding is_waiting_so count_by
  waiting_asked which at cause e =
      ⊎_elim (λ asked. asked) (λ r. absurd (omega (arith, r.0)))
      (run_asked which at cause p turns (desk_with p) p.shares [] (stands_open p opens) (ltb-true _ _ e))

  -- whenever the next call cancels one, that waited at the post which the answer names, and CANCEL with its identifier is written
  pub record CancelTold (c : Call) (post : ℕ) : Type 0 where
    pub waited : is_waiting_at (waiting p opens turns) (meant_by p c.message c.event) post ≡ true
    pub written : Written p (entry_of (next p opens turns) c) (cancel_of (meant_by p c.message c.event) ∷ [])

  pub cancel_told : (c : Call) (post : ℕ) → (step_for (next p opens turns) c).answer ≡ answer.Cancelled post → CancelTold c post
  unfolding is_waiting_at has_such
  cancel_told c post z =
      let d = next p opens turns in
      let a = along p opens turns in
      let i = identifier_of d.profile c.message c.event in
      let k = cancelled_so d c.rows c.count c.message c.area post c.event z in
      let f = place_of_exactly (places_of d) i (place_of (places_of d) i).place (spot_found (place_of (places_of d) i) k.waiting) in
      let m : meant_by p c.message c.event ≡ i =
      sym (meant_air p d (suits p opens turns) c.message c.event) ∙ meant_same d (waiting p opens turns) a c c.event in
      record {
        waited =
            rw m
            (lt-ltb 0 _
            (some_such (places_of d) (waiting p opens turns) a.same (λ x. both (eqb x.identifier i) (eqb x.post post)) (place_of (places_of d) i).place f.inside
            (both_true _ _ f.used (both_true _ _ (eq-eqb _ _ f.same) (eq-eqb _ _ k.there)))));
        written = rw m (written_air p d (suits p opens turns) (entry_of d c) (cancel_of i ∷ []) (written_by d c (answer.Cancelled post) z));
      }
