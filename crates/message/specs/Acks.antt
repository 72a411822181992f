-- What an ACK has after its users: a mask, one bit for each identity, and a result; of INTERROGATE ACK a state.
use Rattle.std.specs.Prelude.{ℕ, ◌-◌, ◌*◌, ◌/◌, ◌^◌, Bool, true, eqb}
use Rattle.codec.specs.Codec.{Codec, number, pure, seq, map, choose}
use Rattle.codec.specs.Options.{given}
use Rattle.message.specs.Elements as element
use Rattle.message.specs.Addresses.{is_zero}
use Rattle.message.specs.declared.State.{State}

-- the mask of n identities in the top n bits of 64: identity i, from 0, is bit 63 − i, whatever n is
unfoldable pub mask_c : ℕ → Codec ℕ
mask_c n = map (λ v. v * 2 ^ (64 - n)) (λ m. m / 2 ^ (64 - n)) (λ m. eqb (m / 2 ^ (64 - n) * 2 ^ (64 - n)) m) (number element.mask n)

-- "mask present", then the mask if it is 1
unfoldable pub masked_c : ℕ → Codec (Bool × ℕ)
masked_c n = given element.mask_present 0 is_zero (mask_c n)

-- result 1 is accepted, and no reason follows; result 0 is not, and it does
unfoldable pub result_c : Codec (ℕ × ℕ)
result_c = seq (number element.result 1) (λ r. choose (eqb r 1) (pure 0 is_zero) (number element.reason 7))

-- ---- INTERROGATE ACK

-- a reason of 3 bits where it is not accepted
unfoldable pub why_not_c : ℕ → Codec ℕ
why_not_c r = choose (eqb r 1) (pure 0 is_zero) (number element.reason 3)

-- an element that is there where it is accepted
unfoldable pub if_accepted_c : ℕ → ℕ → ℕ → Codec ℕ
if_accepted_c r e w = choose (eqb r 1) (number e w) (pure 0 is_zero)

-- the result; the reason, or activation type, interception type and the basic services of the called and the calling, in table 27's order
unfoldable pub state_c : Codec State
state_c =
    map
    (λ (x : ℕ × (ℕ × (ℕ × (ℕ × (ℕ × ℕ))))).
    record { result = x.0; reason = x.1.0; activation = x.1.1.0; interception = x.1.1.1.0; called = x.1.1.1.1.0; calling = x.1.1.1.1.1 })
    (λ (s : State). (s.result, (s.reason, (s.activation, (s.interception, (s.called, s.calling))))))
    (λ _. true)
    (seq (number element.result 1) (λ r. seq (why_not_c r) (λ _.
    seq (if_accepted_c r element.activation_type 1) (λ _.
    seq (if_accepted_c r element.interception_type 1) (λ _.
    seq (if_accepted_c r element.basic_service 2) (λ _. if_accepted_c r element.basic_service 2))))))
