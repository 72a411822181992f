-- New shares in what a host does: over any calls of `host::call` and `host::change_shares` on an opened desk, whose outcomes are known by
-- their contracts alone, when a change is taken, and what a post has of one that was. Assumes nothing.
use Prim.Native.Nat.{ℕ, ◌<◌}
use mathlib.Core.Path.{◌≡◌, sym, ap, ◌∙◌, subst}
use mathlib.Core.Bool.{Bool, true, false}
use mathlib.Core.List as list
use mathlib.Core.List.{List}
use Rattle.codec.specs.Stops.{refusal, no_stop}
use Rattle.profile.specs.Rules.{share_in, shares_ok}
use Rattle.std.specs.Prelude.{Ok}
use Rattle.profile.specs.declared.Profile.{Profile}
use Rattle.profile.specs.declared.Share.{Share}
use Rattle.profile.specs.declared.Shares.{Shares}
use Rattle.records.specs.declared.Identity.{Identity}
use Rattle.desk.specs.Changes.{change_of}
use Rattle.desk.specs.Desks.{open_of}
use Rattle.desk.specs.declared.Change.{Change}
use Rattle.desk.specs.declared.Desk.{Desk}
use Rattle.desk.specs.declared.Event.TheVariants as event
use Rattle.history.specs.Histories.{Turn, History, takes_none, Waiting, held_by, fits_by, is_restricted_call}
use Rattle.history.specs.Hosts.{Made, Promised, Sold, PromisedSale, Deed, AllPromised, desk_left, call_of, history_of, turn_of}
use Rattle.history.proofs.HostSharing.{waiting, opens, history_is, waiting_is, left_is, told_is, post, ToldAdmitted, formed_so}
use Rattle.history.proofs.Selling as step

module _ (p : Profile) (d : Desk) (opening : open_of p ≡ Ok d) (deeds : List Deed) (promised : AllPromised d deeds) where
  abbrev turns : List Turn
  turns = list.map turn_of deeds

  -- the calls that wait by what was written down
  abbrev waits : List Waiting
  waits = waiting p d opening deeds promised

  -- ---- new shares as the next

  module _ (m : Sold) (next : PromisedSale (desk_left d deeds) m) where
    -- the shares that are asked for, for the posts that there are
    abbrev pub asked : Shares
    asked = record { posts = p.shares.posts; share = m.rows }

    sale_is : m.told ≡ step.told p (opens p d opening deeds promised) turns m.rows
    sale_is = next.told ∙ ap (λ (d : Desk). (change_of d m.rows).change) (left_is p d opening deeds promised)

    fits_is : (b : Bool) → fits_by asked waits ≡ b → fits_by asked (step.waits p (opens p d opening deeds promised) turns m.rows) ≡ b
    fits_is b e = ap (λ (w : List Waiting). fits_by asked w) (waiting_is p d opening deeds promised) ∙ e

    -- 23, 24, or taken: no other
    pub call_sale_23 : shares_ok asked ≡ false → m.told ≡ record { taken = false; stop = refusal 23 }
    call_sale_23 e = sale_is ∙ step.sale_23 p (opens p d opening deeds promised) turns m.rows e

    pub call_sale_24 : shares_ok asked ≡ true → fits_by asked waits ≡ false → m.told ≡ record { taken = false; stop = refusal 24 }
    call_sale_24 e f = sale_is ∙ step.sale_24 p (opens p d opening deeds promised) turns m.rows e (fits_is false f)

    pub call_sale_taken : shares_ok asked ≡ true → fits_by asked waits ≡ true → m.told ≡ record { taken = true; stop = no_stop }
    call_sale_taken e f = sale_is ∙ step.sale_taken p (opens p d opening deeds promised) turns m.rows e (fits_is true f)

  -- ---- the next call after a change that was taken, and none taken since

  module _ (before since : History) (rows : List Share) (x : Change) (taken : x.taken ≡ true) (none : takes_none since ≡ true)
      (is : history_of deeds ≡ step.whole p (opens p d opening deeds promised) before since rows x taken none)
      (m : Made) (next : Promised (desk_left d deeds) m) (caller called : Identity) (identifier cause : ℕ)
      (event_is : m.event ≡ event.SetUp caller called identifier cause) (formed : is_restricted_call p waits (call_of m) caller called identifier cause ≡ true) where
    -- the post that it is for
    abbrev here : ℕ
    here = post p d opening deeds promised m next caller called identifier cause event_is formed

    -- below its new reserved number it is not refused
    pub call_bought : held_by waits here < (share_in rows here).reserved → ToldAdmitted p d opening deeds promised m next caller called identifier cause event_is formed
    call_bought h =
        let a =
        step.bought_never_refused p (opens p d opening deeds promised) before since rows x taken none turns (history_is p d opening deeds promised ∙ is)
        (call_of m) caller called identifier cause event_is (formed_so p d opening deeds promised m next caller called identifier cause event_is formed)
        (subst (λ (w : List Waiting). held_by w here < (share_in rows here).reserved) (sym (waiting_is p d opening deeds promised)) h) in
        record { place = a.place; answer_is = told_is p d opening deeds promised m next ∙ a.answer_is }
