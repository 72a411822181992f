-- What posts without a console see, of what a host does: over any calls of `host::call` and `host::change_shares` on an opened desk, whose
-- outcomes are known by their contracts alone, and read from the output areas that were lent. Assumes nothing.
use Prim.Native.Nat.{ℕ}
use mathlib.Core.Path.{◌≡◌, refl, sym, ap, ◌∙◌, subst}
use mathlib.Core.Bool.{true}
use mathlib.Core.List as list
use mathlib.Core.List.{List, [], ◌∷◌}
use Rattle.std.specs.Prelude.{Ok}
use Rattle.profile.specs.declared.Profile.{Profile}
use Rattle.desk.specs.Desks.{open_of}
use Rattle.desk.specs.Notices.{cancel_of}
use Rattle.desk.specs.declared.Answer.TheVariants as answer
use Rattle.desk.specs.declared.Desk.{Desk}
use Rattle.host.specs.declared.Told.{Told}
use Rattle.history.specs.Histories.{Turn, Waiting, meant_by}
use Rattle.history.specs.Hosts.{Made, Promised, Deed, made, sold, AllPromised, desk_left, call_of, turn_of, entry_by, log_by}
use Rattle.history.specs.Radio.{Entry, entry_of, log_of, Written, Asked, is_waiting_so, is_waiting_at}
use Rattle.history.proofs.Asking.{waiting_asked, cancel_told}
use Rattle.history.proofs.HostSharing.{waiting, opens, desk_is, waiting_is, left_is, told_is}

-- what a host writes down of a call is what its step says
heard : (d : Desk) (m : Made) → Promised d m → entry_by m ≡ entry_of d (call_of m)
heard d m c =
    ap (λ (t : Told). record { call = call_of m; answer = t.answer; laid = t.laid; output = m.output }) c.told
    ∙ ap (λ (o : List ℕ). record { call = call_of m; answer = (entry_of d (call_of m)).answer; laid = (entry_of d (call_of m)).laid; output = o }) c.output

heard_all : (deeds : List Deed) (d : Desk) → AllPromised d deeds → log_by deeds ≡ log_of d (list.map turn_of deeds)
unfolding log_by log_of
heard_all [] d a = refl
heard_all (made m ∷ deeds) d a =
    ap (λ (x : Entry). x ∷ log_by deeds) (heard d m a.0)
    ∙ ap (λ (h : List Entry). entry_of d (call_of m) ∷ h) (heard_all deeds m.desk a.1)
    ∙ ap (λ (x : Desk). entry_of d (call_of m) ∷ log_of x (list.map turn_of deeds)) a.0.desk
heard_all (sold m ∷ deeds) d a = heard_all deeds m.desk a.1 ∙ ap (λ (x : Desk). log_of x (list.map turn_of deeds)) a.0.desk

module _ (p : Profile) (d : Desk) (opening : open_of p ≡ Ok d) (deeds : List Deed) (promised : AllPromised d deeds) where
  abbrev turns : List Turn
  turns = list.map turn_of deeds

  -- whenever a call waits at a post, a REQUEST with its identifier and cause was written when it came there, and no other for it since
  pub call_waiting_asked : (which at cause : ℕ) → is_waiting_so (waiting p d opening deeds promised) which at cause ≡ true → Asked p which at cause (log_by deeds)
  call_waiting_asked which at cause e =
      subst (λ (h : List Entry). Asked p which at cause h) (ap (λ (d : Desk). log_of d turns) (sym (desk_is p d opening deeds promised)) ∙ sym (heard_all deeds d promised))
      (waiting_asked p (opens p d opening deeds promised) turns which at cause
      (ap (λ (w : List Waiting). is_waiting_so w which at cause) (waiting_is p d opening deeds promised) ∙ e))

  -- whenever the next call cancels one, that waited at the post which the host is told, and CANCEL with its identifier is written
  pub call_cancel_told : (m : Made) → Promised (desk_left d deeds) m → (post : ℕ) → m.told.answer ≡ answer.Cancelled post
      → (is_waiting_at (waiting p d opening deeds promised) (meant_by p m.message m.event) post ≡ true) × Written p (entry_by m) (cancel_of (meant_by p m.message m.event) ∷ [])
  call_cancel_told m next post z =
      let ok = opens p d opening deeds promised in
      let k = cancel_told p ok turns (call_of m) post (sym (told_is p d opening deeds promised m next) ∙ z) in (
        subst (λ (w : List Waiting). is_waiting_at w (meant_by p m.message m.event) post ≡ true) (waiting_is p d opening deeds promised) k.waited,
        subst (λ (x : Entry). Written p x (cancel_of (meant_by p m.message m.event) ∷ []))
            (sym (heard (desk_left d deeds) m next ∙ ap (λ (d : Desk). entry_of d (call_of m)) (left_is p d opening deeds promised))) k.written,
      )
