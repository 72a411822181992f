-- Document 01's worked cases, those that it marks (P), as one checked list: 1 to 8 are read, 9 and 11 are calls on a desk. (12 is among
-- the calls too.) Each was computed through the definitions, and so is what any answer must be that the functions' contracts allow (that
-- `Reads` and the step are those contracts: crate contracts, Ties). Assumes nothing.
use Prim.Native.Nat.{ℕ}
use mathlib.Core.Path.{◌≡◌, sym, ap, ◌∙◌}
use mathlib.Core.List as list
use mathlib.Core.List.{List, [], ◌∷◌, ◌++◌}
use mathlib.Core.Logic.{◌⊎◌, inl, inr}
use lib.ListN.{take}
use Rattle.std.specs.Prelude.{Result}
use Rattle.codec.specs.Codec.{Read}
use Rattle.codec.specs.declared.Stop.{Stop}
use Rattle.profile.specs.Sample.{sample}
use Rattle.message.specs.declared.Value.{Value}
use Rattle.message.proofs.Cases as read
use Rattle.reading.specs.Answers.{reading_of}
use Rattle.writing.proofs.RoundTrips.{Reads}
use Rattle.desk.specs.declared.Stepped.{Stepped}
use Rattle.desk.proofs.Cases as desk

pub data Case : Type 0 where
  reading : read.Case → Case
  calling : desk.Case → Case

pub data Outcome : Type 0 where
  value : Read Value → Outcome
  step : desk.Outcome → Outcome

abbrev pub gives : Case → Outcome
gives (reading c) = value (read.gives c)
gives (calling c) = step (desk.gives c)

abbrev pub wants : Case → Outcome
wants (reading c) = value (read.wants c)
wants (calling c) = step (desk.wants c)

abbrev pub cases : List Case
cases = list.map reading read.cases ++ list.map calling desk.cases

-- ---- the list comes out right, since both its parts do

-- two functions that agree on a list agree on it under another name
under : {A B C : Type 0} (f g : A → B) (to : B → C) (xs : List A) → list.map f xs ≡ list.map g xs → list.map (λ x. to (f x)) xs ≡ list.map (λ x. to (g x)) xs
under f g to xs e = sym (list.map-map to f xs) ∙ ap (λ ys. list.map to ys) e ∙ list.map-map to g xs

parted : (f : Case → Outcome) → list.map f cases ≡ list.map (λ c. f (reading c)) read.cases ++ list.map (λ c. f (calling c)) desk.cases
parted f =
    list.map-append f (list.map reading read.cases) (list.map calling desk.cases)
    ∙ ap (λ ys. ys ++ list.map f (list.map calling desk.cases)) (list.map-map f reading read.cases)
    ∙ ap (λ ys. list.map (λ c. f (reading c)) read.cases ++ ys) (list.map-map f calling desk.cases)

pub cases_right : list.map gives cases ≡ list.map wants cases
cases_right =
    parted gives
    ∙ ap (λ ys. ys ++ list.map (λ c. step (desk.gives c)) desk.cases) (under read.gives read.wants value read.cases read.cases_right)
    ∙ ap (λ ys. list.map (λ c. value (read.wants c)) read.cases ++ ys) (under desk.gives desk.wants step desk.cases desk.cases_right)
    ∙ sym (parted wants)

-- ---- what the contracts make of it

-- a case of a list
abbrev pub In : {A : Type 0} → A → List A → Type 0
In x [] = ⊥
In x (y ∷ ys) = (x ≡ y) ⊎ In x ys

first : {A : Type 0} → A → List A → A
first d [] = d
first d (x ∷ xs) = x

rest : {A : Type 0} → List A → List A
rest [] = []
rest (x ∷ xs) = xs

agree : {A B : Type 0} (f g : A → B) (x : A) (xs : List A) → list.map f xs ≡ list.map g xs → In x xs → f x ≡ g x
unfolding first rest
agree f g x [] e i = absurd i
agree f g x (y ∷ ys) e (inl z) = ap f z ∙ ap (first (f y)) e ∙ ap g (sym z)
agree f g x (y ∷ ys) e (inr i) = agree f g x ys (ap rest e) i

-- `reading::read` answers a case as the paper says: whatever its contract allows
pub read_worked : (l : List ℕ) (n : ℕ) (want : Read Value) → In (read.reads l n want) read.cases → (r : Result Value Stop) → Reads sample l n r → r ≡ reading_of want
read_worked l n want i r e = e ∙ ap reading_of (agree read.gives read.wants (read.reads l n want) read.cases read.cases_right i)

-- what a step and the area afterwards show of a case
abbrev pub shown : Stepped → List ℕ → desk.Outcome
shown s m = (s.answer, (take s.laid.count s.laid.lengths, (s.desk, (s.marks, m))))

-- and so does `desk::step`
pub step_worked : (c : desk.Case) → In c desk.cases → (s : Stepped) (m : List ℕ)
    → (s ≡ desk.step_for c) × (m ≡ desk.area_for c) → shown s m ≡ desk.wants c
step_worked c i s m e = rw (e.0, e.1) (agree desk.gives desk.wants c desk.cases desk.cases_right i)
