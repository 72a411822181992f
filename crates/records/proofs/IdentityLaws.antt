-- The identities of a group, one by one. `kind2_home` is document 01's: kind 2 with the home extension is no stranger. Assumes nothing.
use Prim.Native.Nat.{ℕ, zero, suc, ◌+◌, ◌-◌, ◌<◌, ◌≤◌}
use mathlib.Core.Path.{◌≡◌, refl, ap, ◌∙◌}
use mathlib.Core.List.{List, []}
use mathlib.Core.Logic.{⊎_elim}
use native.Mathlib.Numerals.{add-one}
use native.Mathlib.Omega.{arith}
use lib.ListN.{length, length-append, get_or, get_or-append}
use lib.Seq.{get_or_at}
use Rattle.bits.proofs.SetLaws.{lt_or}
use Rattle.profile.specs.Rules.{meaning_in}
use Rattle.profile.specs.declared.Kind.TheVariants as kind
use Rattle.profile.specs.declared.Meaning.{Meaning}
use Rattle.profile.specs.declared.Air.{Air}
use Rattle.message.specs.Addresses.{nobody}
use Rattle.message.specs.Groups.{span_in, span_of}
use Rattle.message.specs.declared.Address.{Address}
use Rattle.message.specs.declared.Group.{Group}
use Rattle.records.specs.declared.Identity.{Identity}
use Rattle.records.specs.Identities.{no_identity, identity_of, identity_at, count_of, each, identities_of}

-- ---- one address

-- an address of kind 2 with the home extension has the identity that kind 1 has
pub kind2_home : (air : Air) (s : ℕ)
    → identity_of air (record { kind = 2; ssi = s; extension = air.home }) ≡ identity_of air (record { kind = 1; ssi = s; extension = 0 })
unfolding identity_of
kind2_home air s = refl

same_ssi : (air : Air) (a : Address) → (identity_of air a).ssi ≡ a.ssi
unfolding identity_of
same_ssi air a = refl

-- ---- how many

pub count_le : (air : Air) (g : Group) → count_of air g ≤ 64
unfolding count_of
count_le air g = omega arith

-- one of those that are counted is one that the group names
pub count_in : (air : Air) (g : Group) (m : Meaning) (k : ℕ) → k < count_of air g → m ≡ meaning_in air.meanings g.range → k < span_in m g.addresses
unfolding count_of span_of
count_in air g m k h e = rw e (omega arith)

-- one in a range is not past the last
pub range_in : (air : Air) (m : Meaning) (l : List Address) (k : ℕ) (id : Identity)
    → m.kind ≡ kind.FirstLast → k < span_in m l → id ≡ identity_of air (get_or l 0 nobody)
    → k ≤ (get_or l 1 nobody).ssi - id.ssi
unfolding span_in
range_in air m l k id e h d =
    let n : k < (get_or l 1 nobody).ssi - (get_or l 0 nobody).ssi + 1 = rw e at h in
    let s : id.ssi ≡ (get_or l 0 nobody).ssi = rw d (same_ssi air (get_or l 0 nobody)) in
    omega arith

-- ---- the list

length_each : (n : ℕ) (f : ℕ → Identity) → length (each n f) ≡ n
unfolding each
length_each zero f = refl
length_each (suc n) f = length-append (each n f) _ ∙ ap (λ (k : ℕ). k + 1) (length_each n f) ∙ add-one n

each_at : (n : ℕ) (f : ℕ → Identity) (i : ℕ) → i < n → get_or (each n f) i no_identity ≡ f i
unfolding each
each_at zero f i h = absurd (omega arith)
each_at (suc n) f i h =
    ⊎_elim (λ l. get_or-append (each n f) _ no_identity i (rw (length_each n f) l) ∙ each_at n f i l)
    (λ l. let e : i ≡ n = omega arith in rw e (get_or_at (each n f) (f n) [] no_identity n (length_each n f)))
    (lt_or i n)

module _ (air : Air) (g : Group) where
  pub length_identities : length (identities_of air g) ≡ count_of air g
  unfolding identities_of
  length_identities = length_each (count_of air g) (identity_at air g)

  pub identities_at : (i : ℕ) → i < count_of air g → get_or (identities_of air g) i no_identity ≡ identity_at air g i
  unfolding identities_of
  identities_at i h = each_at (count_of air g) (identity_at air g) i h
