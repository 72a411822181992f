-- Along a message without its value: where each thing on the air ends, or the refusal that reading gives. Of what was passed only so much is
-- kept as a later part asks for: how many identities the users are.
use Rattle.std.specs.Prelude.{ℕ, zero, suc, ◌+◌, ◌-◌, min, Bool, true, false, cond, List, [], ◌∷◌, eqb, leb, Result, Ok, Err}
use Rattle.codec.specs.Stops.{short, refusal}
use Rattle.codec.specs.Codec.{Read, got, no, bind}
use Rattle.codec.specs.Options.{flag}
use Rattle.codec.specs.declared.Stop.{Stop}
use Rattle.profile.specs.Rules.{meaning_in}
use Rattle.profile.specs.declared.Air.{Air}
use Rattle.profile.specs.declared.Kind.{Kind}
use Rattle.profile.specs.declared.Kind.TheVariants as kind
use Rattle.profile.specs.declared.Meaning.{Meaning}
use Rattle.message.specs.Elements as element
use Rattle.message.specs.Numbers.{element_of, width_of}
use Rattle.message.specs.Addresses.{kind_c, address_c}
use Rattle.message.specs.Groups.{range_ok, range_c}
use Rattle.message.specs.Areas.{areas_c}
use Rattle.message.specs.Acks.{masked_c, result_c, state_c}
use Rattle.message.specs.Rows.{row_of}
use Rattle.message.specs.Messages.{header_c}
use Rattle.message.specs.declared.Part.{Part}
use Rattle.message.specs.declared.Part.TheVariants as part
use Rattle.message.specs.declared.Slot.{Slot}
use Rattle.message.specs.declared.Value.{Value}

-- ---- what the code answers

-- a position alone
abbrev pub step_of : Result ℕ Stop → Read Unit
step_of (Ok p) = got tt p
step_of (Err s) = no s

-- the PDU type of what was read
abbrev pub type_in : Read Value → Read ℕ
type_in r = bind r (λ v p. got v.pdu p)

-- the public answer
unfoldable pub type_of : Read ℕ → Result ℕ Stop
type_of (got t p) = Ok t
type_of (no s) = Err s

-- ---- elements and addresses

-- whatever was passed, k is kept
abbrev pub keep : {A : Type 0} → ℕ → Read A → Read ℕ
keep k r = bind r (λ _ q. got k q)

-- an element e of w bits, whose number nobody asks for
unfoldable pub pass_of : ℕ → ℕ → ℕ → ℕ → Read Unit
pass_of e n at w = cond (leb (at + w) n) (got tt (at + w)) (no (short e at))

-- with kind 2 an extension follows the SSI
unfoldable pub address_walk : Bool → (ℕ → ℕ) → ℕ → ℕ → Read Unit
address_walk external f n at =
    bind ((kind_c external).read f n at) (λ k p. bind (pass_of element.ssi n p 24) (λ _ q. cond (eqb k 1) (got tt q) (pass_of element.extension n q 24)))

-- k of them
unfoldable pub addresses_walk : Bool → ℕ → (ℕ → ℕ) → ℕ → ℕ → Read Unit
addresses_walk external zero f n at = got tt at
addresses_walk external (suc k) f n at = bind (address_walk external f n at) (λ _ q. addresses_walk external k f n q)

-- ---- groups: how many identities they name

-- first and last
unfoldable pub ends_walk : Bool → (ℕ → ℕ) → ℕ → ℕ → Read ℕ
ends_walk external f n at =
    bind ((address_c external).read f n at)
    (λ a p. bind ((address_c external).read f n p) (λ b q. cond (range_ok a b) (got (b.ssi - a.ssi + 1) q) (no (refusal 11))))

abbrev pub list_by : Kind → ℕ → Bool → (ℕ → ℕ) → ℕ → ℕ → Read ℕ
list_by kind.Reserved k external f n at = got 0 at
list_by kind.Nobody k external f n at = got 0 at
list_by kind.Listed k external f n at = keep k (addresses_walk external k f n at)
list_by kind.FirstLast k external f n at = ends_walk external f n at

unfoldable pub list_walk : Bool → Meaning → (ℕ → ℕ) → ℕ → ℕ → Read ℕ
list_walk external m f n at = list_by m.kind m.count external f n at

unfoldable pub group_walk : Air → Bool → Bool → (ℕ → ℕ) → ℕ → ℕ → Read ℕ
group_walk air none external f n at = bind ((range_c air none).read f n at) (λ r p. list_walk external (meaning_in air.meanings r) f n p)

-- ---- rows

-- k is how many identities the users so far are, before the part and after it
unfoldable pub part_walk : Air → ℕ → Part → (ℕ → ℕ) → ℕ → ℕ → Read ℕ
part_walk air k part.Nothing f n at = got k at
part_walk air k (part.Number j) f n at = keep k (pass_of (element_of j) n at (width_of j))
part_walk air k part.Users f n at = group_walk air false false f n at
part_walk air k (part.User i) f n at = keep k (address_walk false f n at)
part_walk air k part.Masked f n at = keep k ((masked_c (min k 64)).read f n at)
part_walk air k part.Result f n at = keep k (result_c.read f n at)
part_walk air k part.Dispatchers f n at = keep k (group_walk air true false f n at)
part_walk air k part.Dispatcher f n at = keep k (address_walk false f n at)
part_walk air k part.Interrogation f n at = keep k (state_c.read f n at)
part_walk air k part.Sources f n at = keep k (group_walk air true false f n at)
part_walk air k part.Destinations f n at = keep k (group_walk air true true f n at)
part_walk air k part.Areas f n at = keep k ((areas_c air).read f n at)

-- the first c of these slots
unfoldable pub parts_walk : Air → ℕ → ℕ → List Slot → (ℕ → ℕ) → ℕ → ℕ → Read ℕ
parts_walk air k zero l f n at = got k at
parts_walk air k (suc c) [] f n at = got k at
parts_walk air k (suc c) (s ∷ l) f n at = bind (part_walk air k s.part f n at) (λ j q. parts_walk air j c l f n q)

-- the first c of these options: one is there, or `some` says so
unfoldable pub each_walk : Air → ℕ → Bool → ℕ → List Slot → (ℕ → ℕ) → ℕ → ℕ → Read Bool
each_walk air k some zero l f n at = got some at
each_walk air k some (suc c) [] f n at = got some at
each_walk air k some (suc c) (s ∷ l) f n at =
    bind ((flag element.p_bit).read f n at)
    (λ b q. cond b (bind (part_walk air k s.part f n q) (λ j r. each_walk air j true c l f n r)) (each_walk air k some c l f n q))

unfoldable pub behind_walk : Air → ℕ → ℕ → List Slot → (ℕ → ℕ) → ℕ → ℕ → Read Unit
behind_walk air k c l f n at = bind (each_walk air k false c l f n at) (λ some q. cond some (got tt q) (no (refusal 12)))

unfoldable pub options_walk : Air → ℕ → ℕ → List Slot → (ℕ → ℕ) → ℕ → ℕ → Read Unit
options_walk air k zero l f n at = got tt at
options_walk air k (suc c) l f n at = bind ((flag element.o_bit).read f n at) (λ b q. cond b (behind_walk air k (suc c) l f n q) (got tt q))

unfoldable pub body_walk : Air → ℕ → (ℕ → ℕ) → ℕ → ℕ → Read Unit
body_walk air t f n at =
    bind (parts_walk air 0 (row_of t).count (row_of t).parts f n at) (λ k q. options_walk air k (row_of t).options (row_of t).optional f n q)

-- the PDU type
unfoldable pub whole_walk : Air → (ℕ → ℕ) → ℕ → Read ℕ
whole_walk air f n =
    bind ((header_c air.ss).read f n 0) (λ h p. bind (body_walk air h.1 f n p) (λ _ q. cond (eqb q n) (got h.1 q) (no (refusal 13))))
