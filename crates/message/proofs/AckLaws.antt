-- The mask, the result and the state of an ACK are good codecs. Assumes nothing.
use Prim.Native.Nat.{ℕ, ◌-◌, ◌*◌, ◌/◌, ◌^◌}
use mathlib.Core.Path.{◌≡◌, refl}
use mathlib.Core.Bool.{true}
use lib.Dec.{eqb}
use lib.Pow.{shl-shr}
use borrow.Author.Tests.{eqb-true, eq-eqb}
use Rattle.codec.specs.Codec.{number, pure, choose}
use Rattle.codec.proofs.Good.{Good}
use Rattle.codec.proofs.Combinators.{good_number, good_seq, good_map, good_iso, good_choose}
use Rattle.codec.proofs.OptionLaws.{good_given}
use Rattle.message.specs.Elements as element
use Rattle.message.specs.Addresses.{is_zero}
use Rattle.message.specs.Acks.{mask_c, masked_c, result_c, why_not_c, if_accepted_c, state_c}
use Rattle.message.proofs.AddressLaws.{zero_is, good_zero}

mask_fits : (v k : ℕ) → eqb (v * 2 ^ k / 2 ^ k * 2 ^ k) (v * 2 ^ k) ≡ true
mask_fits v k = rw (shl-shr v k) (eq-eqb (v * 2 ^ k) (v * 2 ^ k) refl)

pub good_mask : (n : ℕ) → Good (mask_c n)
unfolding mask_c
good_mask n =
    good_map (λ v. v * 2 ^ (64 - n)) (λ m. m / 2 ^ (64 - n)) (λ m. eqb (m / 2 ^ (64 - n) * 2 ^ (64 - n)) m) (number element.mask n)
    (λ v h. shl-shr v (64 - n)) (λ v h. mask_fits v (64 - n)) (λ m e h. eqb-true _ m e) (good_number element.mask n)

pub good_masked : (n : ℕ) → Good (masked_c n)
unfolding masked_c
good_masked n = good_given element.mask_present 0 is_zero (mask_c n) refl zero_is (good_mask n)

pub good_result : Good result_c
unfolding result_c
good_result =
    good_seq (number element.result 1) (λ r. choose (eqb r 1) (pure 0 is_zero) (number element.reason 7)) (good_number element.result 1)
    (λ r _. good_choose (eqb r 1) good_zero (good_number element.reason 7))

good_why_not : (r : ℕ) → Good (why_not_c r)
unfolding why_not_c
good_why_not r = good_choose (eqb r 1) good_zero (good_number element.reason 3)

good_if_accepted : (r e w : ℕ) → Good (if_accepted_c r e w)
unfolding if_accepted_c
good_if_accepted r e w = good_choose (eqb r 1) (good_number e w) good_zero

pub good_state : Good state_c
unfolding state_c
good_state =
    good_iso _ _ _ (λ x v. refl) (λ b _. refl)
    (good_seq _ _ (good_number element.result 1)
    (λ r _. good_seq (why_not_c r) _ (good_why_not r)
    (λ _ _. good_seq (if_accepted_c r element.activation_type 1) _ (good_if_accepted r element.activation_type 1)
    (λ _ _. good_seq (if_accepted_c r element.interception_type 1) _ (good_if_accepted r element.interception_type 1)
    (λ _ _. good_seq (if_accepted_c r element.basic_service 2) _ (good_if_accepted r element.basic_service 2)
    (λ _ _. good_if_accepted r element.basic_service 2))))))
