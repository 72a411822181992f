-- Identities: document 01, "User records and waiting calls". An identity is the pair of SSI and extension.
use Rattle.std.specs.Prelude.{ℕ, zero, suc, ◌+◌, min, cond, List, [], ◌∷◌, ◌++◌, eqb, get_or}
use Rattle.profile.specs.Rules.{meaning_in}
use Rattle.profile.specs.declared.Kind.{Kind}
use Rattle.profile.specs.declared.Kind.TheVariants as kind
use Rattle.profile.specs.declared.Meaning.{Meaning}
use Rattle.profile.specs.declared.Air.{Air}
use Rattle.message.specs.Addresses.{nobody}
use Rattle.message.specs.Groups.{span_of}
use Rattle.message.specs.declared.Address.{Address}
use Rattle.message.specs.declared.Group.{Group}
use Rattle.records.specs.declared.Identity.{Identity}

abbrev pub no_identity : Identity
no_identity = record { ssi = 0; extension = 0 }

-- an address of kind 1 has the home extension, one of kind 2 its own
unfoldable pub identity_of : Air → Address → Identity
identity_of air a = record { ssi = a.ssi; extension = cond (eqb a.kind 1) air.home a.extension }

-- the identity k after this one: the next SSI each time, and the same extension
unfoldable pub later : Identity → ℕ → Identity
later id k = record { ssi = id.ssi + k; extension = id.extension }

-- identity k, from 0, of the addresses l: of a list that of address k, of a range the k-th after the first
abbrev pub identity_by : Kind → Air → List Address → ℕ → Identity
identity_by kind.Reserved air l k = no_identity
identity_by kind.Nobody air l k = no_identity
identity_by kind.Listed air l k = identity_of air (get_or l k nobody)
identity_by kind.FirstLast air l k = later (identity_of air (get_or l 0 nobody)) k

unfoldable pub identity_in : Air → Meaning → List Address → ℕ → Identity
identity_in air m l k = identity_by m.kind air l k

unfoldable pub identity_at : Air → Group → ℕ → Identity
identity_at air g k = identity_in air (meaning_in air.meanings g.range) g.addresses k

-- how many there are: what the group names, which is at most 64 if the group is valid
unfoldable pub count_of : Air → Group → ℕ
count_of air g = min (span_of air g) 64

-- f 0, f 1, up to f (n - 1)
unfoldable pub each : ℕ → (ℕ → Identity) → List Identity
each zero f = []
each (suc n) f = each n f ++ (f n ∷ [])

-- the identities of a group, in order
unfoldable pub identities_of : Air → Group → List Identity
identities_of air g = each (count_of air g) (identity_at air g)
