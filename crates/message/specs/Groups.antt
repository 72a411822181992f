-- A group: a range value, then the addresses that its meaning has. It names some identities: each of a list, or all from first to last.
use Rattle.std.specs.Prelude.{ℕ, zero, suc, ◌+◌, ◌-◌, Bool, true, false, List, [], ◌∷◌, eqb, leb, get_or, take, drop, replicate, set}
use Rattle.std.proofs.lemmas.List.Edits.{sets}
use Rattle.codec.specs.Codec.{Codec, both, number, guard, seq, map, vec}
use Rattle.profile.specs.Rules.{list_ok, meaning_in}
use Rattle.profile.specs.declared.Kind.{Kind}
use Rattle.profile.specs.declared.Kind.TheVariants as kind
use Rattle.profile.specs.declared.Meaning.{Meaning}
use Rattle.profile.specs.declared.Air.{Air}
use Rattle.message.specs.Elements as element
use Rattle.message.specs.Addresses.{nobody, is_nobody, address_c}
use Rattle.message.specs.declared.Address.{Address}
use Rattle.message.specs.declared.Group.{Group}

-- ---- what a meaning asks for

abbrev pub addresses_by : Kind → ℕ → ℕ
addresses_by kind.Reserved n = 0
addresses_by kind.Nobody n = 0
addresses_by kind.Listed n = n
addresses_by kind.FirstLast n = 2

-- how many addresses follow
unfoldable pub addresses_in : Meaning → ℕ
addresses_in m = addresses_by m.kind m.count

abbrev pub allowed_by : Kind → ℕ → Bool → Bool
allowed_by kind.Reserved n none = false
allowed_by kind.Nobody n none = none
allowed_by kind.Listed n none = list_ok n
allowed_by kind.FirstLast n none = true

-- reserved never, "none" where `none` says so: for dispatchers, not for users
unfoldable pub allowed_in : Bool → Meaning → Bool
allowed_in none m = allowed_by m.kind m.count none

-- ---- the addresses, in fifteen places

unfoldable pub nobodies : List Address
nobodies = replicate 15 nobody

-- k of them, each of them none
unfoldable pub are_none : {A : Type 0} → (A → Bool) → ℕ → List A → Bool
are_none is_none zero [] = true
are_none is_none zero (a ∷ l) = false
are_none is_none (suc k) [] = false
are_none is_none (suc k) (a ∷ l) = both (is_none a) (are_none is_none k l)

-- k of them in the first k of fifteen places; the places beyond are none
abbrev pub fifteen_c : {A : Type 0} → A → (A → Bool) → Codec A → ℕ → Codec (List A)
fifteen_c none is_none C k =
    map (λ xs. sets (replicate 15 none) 0 xs) (λ l. take k l) (λ l. are_none is_none (15 - k) (drop k l)) (vec k C)

-- k addresses
unfoldable pub places_c : Bool → ℕ → Codec (List Address)
places_c external k = fifteen_c nobody is_nobody (address_c external) k

-- one kind, one extension, first ≤ last, at most 64 identities
unfoldable pub range_ok : Address → Address → Bool
range_ok a b =
    both (eqb a.kind b.kind) (both (eqb a.extension b.extension) (both (leb a.ssi b.ssi) (leb (b.ssi - a.ssi + 1) 64)))

abbrev pub ends_by : Kind → List Address → Bool
ends_by kind.Reserved l = true
ends_by kind.Nobody l = true
ends_by kind.Listed l = true
ends_by kind.FirstLast l = range_ok (get_or l 0 nobody) (get_or l 1 nobody)

-- the ends of a range, where it is one
unfoldable pub ends_ok : Meaning → List Address → Bool
ends_ok m l = ends_by m.kind l

-- 11 after the second address
unfoldable pub addresses_c : Bool → Meaning → Codec (List Address)
addresses_c external m = guard 11 (λ l. ends_ok m l) (places_c external (addresses_in m))

-- ---- the group

-- 9 after the range
unfoldable pub range_c : Air → Bool → Codec ℕ
range_c air none = guard 9 (λ r. allowed_in none (meaning_in air.meanings r)) (number element.range 4)

-- `none` says whether it may be "none", `external` whether it has destinations
unfoldable pub group_c : Air → Bool → Bool → Codec Group
group_c air none external =
    map
    (λ (x : ℕ × List Address). record { range = x.0; addresses = x.1 })
    (λ (g : Group). (g.range, g.addresses))
    (λ _. true)
    (seq (range_c air none) (λ r. addresses_c external (meaning_in air.meanings r)))

-- no group, and one address alone, as groups with range number 0
unfoldable pub no_group : Group
no_group = record { range = 0; addresses = nobodies }

unfoldable pub one_group : Address → Group
one_group a = record { range = 0; addresses = set nobodies 0 a }

-- the address at a place of a group, and the group with another one there
abbrev pub address_at : ℕ → Group → Address
address_at i g = get_or g.addresses i nobody

abbrev pub with_address : ℕ → Address → Group → Group
with_address i a g = record { range = g.range; addresses = set g.addresses i a }

abbrev pub first_of : Group → Address
first_of g = address_at 0 g

-- ---- how many identities a group names

abbrev pub span_by : Kind → ℕ → List Address → ℕ
span_by kind.Reserved n l = 0
span_by kind.Nobody n l = 0
span_by kind.Listed n l = n
span_by kind.FirstLast n l = (get_or l 1 nobody).ssi - (get_or l 0 nobody).ssi + 1

unfoldable pub span_in : Meaning → List Address → ℕ
span_in m l = span_by m.kind m.count l

unfoldable pub span_of : Air → Group → ℕ
span_of air g = span_in (meaning_in air.meanings g.range) g.addresses
