-- Where a message broke off: the first element along the bits that reaches past its length.
use Rattle.std.specs.Prelude.{ℕ, ◌+◌, cond, List, [], ◌∷◌, leb}
use Rattle.codec.specs.Codec.{Along, takes, asks}
use Rattle.codec.specs.Options.{Optional, absent, there}

-- an element along the bits: which one, the position where it begins, how many bits it has
pub record Element : Type 0 where
  pub element : ℕ
  pub at : ℕ
  pub width : ℕ

-- tests are passed over
unfoldable pub first_past : ℕ → List Along → Optional Element
first_past n [] = absent
first_past n (takes e at w ∷ rest) = cond (leb (at + w) n) (first_past n rest) (there (record { element = e; at = at; width = w }))
first_past n (asks c fails ∷ rest) = first_past n rest
