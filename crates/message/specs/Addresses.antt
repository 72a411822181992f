-- One address: a 2-bit kind, then with kind 1 an SSI of 24 bits, with kind 2 an SSI and an extension of 24 each. Kind 3 is an external
-- number, which a destination may be (`external`); nobody carries one.
use Rattle.std.specs.Prelude.{ℕ, Bool, true, not, ◌||◌, eqb}
use Rattle.codec.specs.Codec.{Codec, both, number, pure, guard, seq, map, choose}
use Rattle.message.specs.Elements as element
use Rattle.message.specs.declared.Address.{Address}

-- no address: what a place holds that carries none
abbrev pub nobody : Address
nobody = record { kind = 0; ssi = 0; extension = 0 }

abbrev pub is_zero : ℕ → Bool
is_zero n = eqb n 0

unfoldable pub is_nobody : Address → Bool
is_nobody a = both (is_zero a.kind) (both (is_zero a.ssi) (is_zero a.extension))

abbrev pub is_kind : ℕ → Bool
is_kind k = eqb k 1 || eqb k 2

abbrev pub is_internal : ℕ → Bool
is_internal k = not (eqb k 3)

-- kinds 0 and 3 are refused with 10; kind 3 with 27 where it may be an external number
unfoldable pub kind_c : Bool → Codec ℕ
kind_c external = guard 10 is_kind (choose external (guard 27 is_internal (number element.kind 2)) (number element.kind 2))

-- the extension is on the air with kind 2 alone, and zero otherwise
unfoldable pub extension_c : ℕ → Codec ℕ
extension_c k = choose (eqb k 1) (pure 0 is_zero) (number element.extension 24)

unfoldable pub address_c : Bool → Codec Address
address_c external =
    map
    (λ (x : ℕ × (ℕ × ℕ)). record { kind = x.0; ssi = x.1.0; extension = x.1.1 })
    (λ (a : Address). (a.kind, (a.ssi, a.extension)))
    (λ _. true)
    (seq (kind_c external) (λ k. seq (number element.ssi 24) (λ s. extension_c k)))
