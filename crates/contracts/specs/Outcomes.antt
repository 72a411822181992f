-- What it is for a contract to decide: document 01, "What the contracts have to decide". It is said of the contract that a function's
-- theorem is about, `spec` of the function's module, so no text here repeats a clause. `says` is then the claim that the checker reads
-- off the clause (`Reads.Learnt` of that module), or one that is written out where it reads none: `is` holds it to the contract.
use Rattle.std.specs.Prelude.{◌≡◌}
use seplogic.Ra.Ura.{Ura}
use base.Logic.{SProp, emp}
use prog.Memory.{Memory}
use prog.Routine.{Routine}
use types.Logic.{Logic}
use contract.Lifetimes.{Lfts}
use contract.Monad.{Fun, fact}
use denote.Triple.Entry.{Args, Res}
use denote.Triple.Clauses.{Ended, Lasts, AtExit, at_exit}
use denote.Triple.Spec.{Spec, exits}

module _ (T : Ended) where
  -- a contract, at every model of the logic
  abbrev pub Contract : Type 2
  Contract = (M : Type 1) (𝓤 : Ura M) (𝓛 : Logic 𝓤) → (Memory → SProp 𝓤) → (Routine → Fun 𝓤) → Spec 𝓤 T.signature

  -- a plain claim of the arguments, the answer and the arguments at exit
  abbrev pub Claim : Type 1
  Claim = (κs : Lfts T.signature.lifetimes) → Args T.signature κs → Res T.signature κs → AtExit T κs → Type 0

  -- the contract that asks nothing of the arguments, and says just the claim of the answer and the last value of each `&mut`
  abbrev pub saying_of : Claim → Contract
  saying_of says M 𝓤 𝓛 mem run κs a = record {
    ghost = Unit {0};
    requires = λ g. emp 𝓤;
    ensures = λ g x. exits 𝓛 T.signature T.kept κs a (λ e. fact 𝓤 (says κs a x e));
  }

  -- the contract is a plain claim, whatever the arguments, and any two outcomes that it allows are equal: the answer x with the last
  -- values v, and y with w
  pub record Decides (contract : Contract) : Type 2 where
    pub says : Claim
    pub is : contract ≡ saying_of says
    pub one :
        (κs : Lfts T.signature.lifetimes) (a : Args T.signature κs) (x y : Res T.signature κs) (v w : Lasts T κs a)
        → says κs a x (at_exit T κs a v)
        → says κs a y (at_exit T κs a w)
        → (x ≡ y) × (v ≡ w)
