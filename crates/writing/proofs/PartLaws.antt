-- Laws of the parts that a writer goes through: what is left of a list, destinations, the state, the mask's number. Assumes nothing.
use Rattle.std.proofs.Common.{◌≡◌, ℕ, ◌+◌, ◌<◌, ◌≤◌, min, Bool, true, false, cond, eqb, List, [], ◌∷◌, ◌++◌, length, get_or, take, drop, refl, ap, add-one, drop_of_length-le, drop-cons}
use Rattle.std.proofs.lemmas.List.{take_min}
use Rattle.bits.specs.Puts.{binary}
use Rattle.codec.specs.Codec.{Codec, number, pure, choose, vec_bits}
use Rattle.profile.specs.Rules.{meaning_in}
use Rattle.profile.specs.declared.Air.{Air}
use Rattle.message.specs.Elements as element
use Rattle.message.specs.Addresses.{is_zero, kind_c, address_c}
use Rattle.message.specs.Groups.{addresses_in, places_c, addresses_c, range_c, group_c}
use Rattle.message.specs.Acks.{why_not_c, if_accepted_c, state_c}
use Rattle.message.specs.declared.Address.{Address}
use Rattle.message.specs.declared.Group.{Group}
use Rattle.message.specs.declared.State.{State}
use Rattle.writing.specs.Parts.{why_not_bits, if_accepted_bits}

-- the bits of those from i on
module _ {A : Type 0} (C : Codec A) where
  abbrev pub rest_of : List A → ℕ → List ℕ
  rest_of items i = vec_bits C (drop i items)

  pub rest_more : (none : A) (items : List A) (i : ℕ) → i < length items → rest_of items i ≡ C.bits (get_or items i none) ++ rest_of items (i + 1)
  rest_more none items i h = rw (add-one, drop-cons items i none h)

  pub rest_end : (items : List A) (i : ℕ) → length items ≤ i → rest_of items i ≡ []
  rest_end items i h = rw (drop_of_length-le items h)

-- at most k of a list of k, where some are counted
pub few_taken : {A : Type 0} (l : List A) (m n k : ℕ) → m ≡ min n k → length l ≡ k → take m l ≡ take n l
few_taken l m n k e h = rw (e, ← h) (take_min n l)

-- ---- destinations have the bits that any other addresses have

vec_alike : (xs : List Address) → vec_bits (address_c true) xs ≡ vec_bits (address_c false) xs
unfolding address_c kind_c
vec_alike [] = refl
vec_alike (a ∷ xs) = ap (λ (bs : List ℕ). (address_c false).bits a ++ bs) (vec_alike xs)

pub group_alike : (air : Air) (g : Group) → (group_c air true true).bits g ≡ (group_c air true false).bits g
unfolding group_c range_c addresses_c places_c number
group_alike air g = ap (λ (bs : List ℕ). binary 4 g.range ++ bs) (vec_alike (take (addresses_in (meaning_in air.meanings g.range)) g.addresses))

-- ---- the state of an INTERROGATE ACK

pub state_bits : (s : State)
    → state_c.bits s
    ≡ binary 1 s.result ++ (why_not_bits s.result s.reason ++ (if_accepted_bits s.result 1 s.activation ++ (if_accepted_bits s.result 1 s.interception
    ++ (if_accepted_bits s.result 2 s.called ++ if_accepted_bits s.result 2 s.calling))))
unfolding state_c why_not_c if_accepted_c number
state_bits s = go (eqb s.result 1)
  where
    go : (b : Bool)
        → binary 1 s.result ++ ((choose b (pure 0 is_zero) (number element.reason 3)).bits s.reason
        ++ ((choose b (number element.activation_type 1) (pure 0 is_zero)).bits s.activation
        ++ ((choose b (number element.interception_type 1) (pure 0 is_zero)).bits s.interception
        ++ ((choose b (number element.basic_service 2) (pure 0 is_zero)).bits s.called ++ (choose b (number element.basic_service 2) (pure 0 is_zero)).bits s.calling))))
        ≡ binary 1 s.result ++ (cond b [] (binary 3 s.reason) ++ (cond b (binary 1 s.activation) [] ++ (cond b (binary 1 s.interception) []
        ++ (cond b (binary 2 s.called) [] ++ cond b (binary 2 s.calling) []))))
    go true = refl
    go false = refl
