-- New shares on a desk where calls may wait: document 02, (vi). The number of posts is fixed; reserved numbers and ceilings change.
use Rattle.std.specs.Prelude.{ℕ, Bool, true, false, not, cond, List, [], ◌∷◌, ltb, Result, Ok, Err}
use Rattle.codec.specs.Stops.{refusal, no_stop}
use Rattle.codec.specs.Codec.{Ground}
use Rattle.codec.specs.declared.Stop.{Stop}
use Rattle.profile.specs.Rules.{no_share, share_in, shares_ok}
use Rattle.profile.specs.declared.Share.{Share}
use Rattle.profile.specs.declared.Shares.{Shares}
use Rattle.places.specs.Fits.{fits_of}
use Rattle.desk.specs.Desks.{desk_ok}
use Rattle.desk.specs.Orders.{posts_of, places_of}
use Rattle.desk.specs.declared.Changed.{Changed}
use Rattle.desk.specs.declared.Desk.{Desk}

-- ---- the shares that are asked for

-- the row of a post is the one that was given, and what was given past the posts is not looked at: those rows are 0
abbrev pub row_for : ℕ → List Share → ℕ → Share
row_for posts rows p = cond (ltb p posts) (share_in rows p) no_share

unfoldable pub new_shares : ℕ → List Share → Shares
new_shares posts rows =
    record {
      posts = posts;
      share =
          row_for posts rows 0 ∷ row_for posts rows 1 ∷ row_for posts rows 2 ∷ row_for posts rows 3
          ∷ row_for posts rows 4 ∷ row_for posts rows 5 ∷ row_for posts rows 6 ∷ row_for posts rows 7
          ∷ [];
    }

-- for the posts of a desk
abbrev pub shares_for : Desk → List Share → Shares
shares_for d rows = new_shares (posts_of d) rows

-- ---- the grounds, and their order

-- new shares break a profile rule
abbrev pub broken_shares : Desk → List Share → Ground
broken_shares d rows = (refusal 23, not (shares_ok (shares_for d rows)))

-- they don't fit what is held
abbrev pub unfit_shares : Desk → List Share → Ground
unfit_shares d rows = (refusal 24, not (fits_of (shares_for d rows) (places_of d)))

-- 1, 23, 24
unfoldable pub change_order : Desk → List Share → List Ground
change_order d rows = (refusal 1, not (desk_ok d)) ∷ broken_shares d rows ∷ unfit_shares d rows ∷ []

-- ---- what is answered, and the desk afterwards

-- a refusal does nothing
abbrev pub refused_change : Desk → Stop → Changed
refused_change d s = record { change = record { taken = false; stop = s }; desk = d }

-- the shares are these, and nothing else changes
abbrev pub taken_change : Desk → Shares → Changed
taken_change d shares =
    record {
      change = record { taken = true; stop = no_stop };
      desk = record { profile = record { air = d.profile.air; shares = shares }; places = d.places };
    }

-- the desk with its new shares, or a refusal
abbrev pub settled_change : Desk → Result Desk Stop → Changed
settled_change d (Ok shared) = record { change = record { taken = true; stop = no_stop }; desk = shared }
settled_change d (Err s) = refused_change d s

abbrev pub refused_if : Bool → ℕ → Desk → Changed → Changed
refused_if holds c d after = cond holds (refused_change d (refusal c)) after

unfoldable pub change_of : Desk → List Share → Changed
change_of d rows =
    refused_if (not (desk_ok d)) 1 d
    (refused_if (not (shares_ok (shares_for d rows))) 23 d
    (refused_if (not (fits_of (shares_for d rows) (places_of d))) 24 d (taken_change d (shares_for d rows))))
