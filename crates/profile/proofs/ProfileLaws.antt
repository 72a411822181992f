-- The sample profile passes, `Profile::new` gives a profile exactly if it does, and `list_of_one` a range value that means one. Assumes
-- nothing.
use Prim.Native.Nat.{ℕ, ◌<◌, ◌≤◌}
use mathlib.Core.Path.{◌≡◌, refl, sym, ap}
use mathlib.Core.Bool.{true, false}
use mathlib.Core.List.{List}
use Rattle.std.proofs.Common.{Ok, Err}
use lib.ListN.{length, take}
use Rattle.std.specs.List.{list_all, sum_by}
use borrow.Author.Tests.{eqb-true}
use Rattle.codec.specs.Codec.{both}
use Rattle.codec.specs.Stops.{refusal}
use Rattle.codec.proofs.Good.{not_both}
use Rattle.profile.specs.Counting.{every, sum}
use Rattle.profile.specs.Rules.{reserved, no_share, meaning_ok, meaning_in, is_one_by, is_one, list_of_one, air_ok, share_ok, share_in, shares_ok, profile_ok, new_of}
use Rattle.profile.specs.Sample.{sample_meanings, sample_share, sample}
use Rattle.profile.specs.declared.Kind.{Kind}
use Rattle.profile.specs.declared.Kind.TheVariants as kind
use Rattle.profile.specs.declared.Meaning.{Meaning}
use Rattle.profile.specs.declared.Share.{Share}
use Rattle.profile.specs.declared.Profile.{Profile}
use Rattle.profile.proofs.CountLaws.{every_taken, every_listed, sum_taken, lowest_passes}

pub sample_passes : profile_ok sample ≡ true
unfolding profile_ok air_ok shares_ok every sum both meaning_ok meaning_in share_ok share_in sample sample_meanings sample_share
sample_passes = refl

module _ (p : Profile) where
  -- `Profile::new` gives a profile that passes, and 1 for any other
  pub new_found : profile_ok p ≡ true → new_of p.air p.shares ≡ Ok p
  unfolding new_of
  new_found e = rw e

  pub new_refused : profile_ok p ≡ false → new_of p.air p.shares ≡ Err (refusal 1)
  unfolding new_of
  new_refused e = rw e

-- ---- what the tests and the sum over the elements say of the numbers

pub all_meanings : (meanings : List Meaning) → length meanings ≡ 16 → list_all meaning_ok meanings ≡ every 16 (λ r. meaning_ok (meaning_in meanings r))
unfolding meaning_in
all_meanings meanings e = every_listed meanings reserved meaning_ok 16 (sym e)

pub all_shares : (posts : ℕ) (share : List Share) → posts ≤ length share → list_all share_ok (take posts share) ≡ every posts (λ p. share_ok (share_in share p))
unfolding share_in
all_shares posts share h = every_taken share no_share share_ok posts h

pub all_reserved : (posts : ℕ) (share : List Share) → posts ≤ length share
    → sum_by (λ (s : Share). s.reserved) (take posts share) ≡ sum posts (λ p. (share_in share p).reserved)
unfolding share_in
all_reserved posts share h = sum_taken share no_share (λ (s : Share). s.reserved) posts h

-- ---- a list of one

one_by : (k : Kind) (n : ℕ) → is_one_by k n ≡ true → ◌≡◌ {A = Meaning} (record { kind = k; count = n }) (record { kind = kind.Listed; count = 1 })
one_by kind.Reserved n e = not_both e
one_by kind.Nobody n e = not_both e
one_by kind.Listed n e = ap (λ (x : ℕ). record { kind = kind.Listed; count = x }) (eqb-true n 1 e)
one_by kind.FirstLast n e = not_both e

-- the range value that it gives means a list of one
pub list_of_one_means : (meanings : List Meaning) → list_of_one meanings < 16 → meaning_in meanings (list_of_one meanings) ≡ record { kind = kind.Listed; count = 1 }
unfolding list_of_one is_one
list_of_one_means meanings h = one_by _ _ (lowest_passes 16 0 (λ r. is_one (meaning_in meanings r)) h)
