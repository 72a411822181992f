-- Optional elements, as document 01, "Bits on the air", has them: one O-bit; if it is 1, a P-bit before each optional element, and 12
-- if all of these are 0.
use Rattle.std.specs.Prelude.{ℕ, Bool, true, false, cond, List, [], eqb}
use Rattle.codec.specs.Codec.{Codec, got, bind, number, pure, guard, seq, map, choose}

-- the element e of one bit, as a truth value
unfoldable pub flag : ℕ → Codec Bool
flag e = map (λ v. eqb v 1) (λ b. cond b 1 0) (λ _. true) (number e 1)

-- the bit p, then C if it is 1; if it is 0 the value is `none`, for which `is_none` is the test
abbrev pub given : {A : Type 0} → ℕ → A → (A → Bool) → Codec A → Codec (Bool × A)
given p none is_none C = seq (flag p) (λ b. choose b C (pure none is_none))

-- an element that may be there or not
pub data Optional (A : Type 0) : Type 0 where
  absent : Optional A
  there : A → Optional A

abbrev pub is_there : {A : Type 0} → Optional A → Bool
is_there absent = false
is_there (there a) = true

abbrev pub is_absent : {A : Type 0} → Optional A → Bool
is_absent absent = true
is_absent (there a) = false

-- C, as an element that is there
module _ {A : Type 0} (C : Codec A) where
  abbrev pub there_bits : Optional A → List ℕ
  there_bits absent = []
  there_bits (there a) = C.bits a

  abbrev pub there_ok : Optional A → Bool
  there_ok absent = false
  there_ok (there a) = C.ok a

abbrev pub there_c : {A : Type 0} → Codec A → Codec (Optional A)
there_c C =
    record {
      read = λ f n at. bind (C.read f n at) (λ a p. got (there a) p);
      order = λ f n at. C.order f n at;
      bits = λ x. there_bits C x;
      ok = λ x. there_ok C x;
    }

-- the P-bit p, then C if it is 1
abbrev pub optional : {A : Type 0} → ℕ → Codec A → Codec (Optional A)
optional {A} p C =
    map (λ (x : Bool × Optional A). x.1) (λ a. (is_there a, a)) (λ _. true) (seq (flag p) (λ b. choose b (there_c C) (pure absent is_absent)))

-- the O-bit o, then the optional elements D if it is 1, of which `some` must be there; if it is 0 the value is `none`
abbrev pub options : {A : Type 0} → ℕ → A → (A → Bool) → (A → Bool) → Codec A → Codec A
options {A} o none is_none some D =
    map (λ (x : Bool × A). x.1) (λ a. (some a, a)) (λ _. true)
    (seq (flag o) (λ b. choose b (guard 12 some D) (pure none is_none)))
