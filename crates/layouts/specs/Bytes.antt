-- What the two layouts are made of: numbers in bytes, most significant first, and things of one size after each other. Bytes past the
-- end of a list are 0.
use Rattle.std.specs.Prelude.{ℕ, zero, suc, ◌+◌, ◌*◌, ◌/◌, ◌%◌, Bool, true, List, [], ◌∷◌, ◌++◌, eqb, get_or, drop}
use Rattle.codec.specs.Codec.{both}

-- the number in the first n bytes
unfoldable pub number_from : ℕ → List ℕ → ℕ
number_from zero l = 0
number_from (suc n) l = number_from n l * 256 + get_or l n 0

-- a number in n bytes
unfoldable pub number_bytes : ℕ → ℕ → List ℕ
number_bytes zero v = []
number_bytes (suc n) v = number_bytes n (v / 256) ++ (v % 256 ∷ [])

-- n things of k bytes each, and what f reads from the bytes of one
module _ {A : Type 0} (f : List ℕ → A) (k : ℕ) where
  unfoldable pub rows_from : ℕ → List ℕ → List A
  rows_from zero l = []
  rows_from (suc n) l = f l ∷ rows_from n (drop k l)

-- the bytes of each, one after the other
module _ {A : Type 0} (f : A → List ℕ) where
  unfoldable pub rows_bytes : List A → List ℕ
  rows_bytes [] = []
  rows_bytes (a ∷ l) = f a ++ rows_bytes l

unfoldable pub are_zero : List ℕ → Bool
are_zero [] = true
are_zero (b ∷ l) = both (eqb b 0) (are_zero l)
