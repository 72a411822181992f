-- The one law that every lemma here cites, `same`, in the five forms that contracts have: they say the answer alone, the last value of a
-- `&mut` alone, both, or the answer and the last values of two or three. Assumes nothing.
use mathlib.Core.Path.{◌≡◌, refl, ap, sym, ◌∙◌}

-- two outcomes that equal the same are equal
pub same : {A : Type 0} {x y z : A} → x ≡ z → y ≡ z → x ≡ y
same p q = p ∙ sym q

pub same_answer : {A B : Type 0} {x y z : A} {v : B} → x ≡ z → y ≡ z → (x ≡ y) × (v ≡ v)
same_answer p q = (same p q, refl)

-- f puts the last value among those of the other arguments
pub same_exit : {A B C : Type 0} (f : B → C) {x : A} {v w u : B} → v ≡ u → w ≡ u → (x ≡ x) × (f v ≡ f w)
same_exit f p q = (refl, ap f (same p q))

pub same_both : {A B C : Type 0} (f : B → C) {x y z : A} {v w u : B} → (x ≡ z) × (v ≡ u) → (y ≡ z) × (w ≡ u) → (x ≡ y) × (f v ≡ f w)
same_both f p q = (same p.0 q.0, ap f (same p.1 q.1))

pub same_all : {A B C D : Type 0} (f : B → C → D) {x y z : A} {v w u : B} {k l m : C} → (x ≡ z) × ((v ≡ u) × (k ≡ m)) → (y ≡ z) × ((w ≡ u) × (l ≡ m))
    → (x ≡ y) × (f v k ≡ f w l)
same_all f {v = v} {w = w} {k = k} {l = l} p q = (same p.0 q.0, ap (λ a. f a k) (same p.1.0 q.1.0) ∙ ap (λ b. f w b) (same p.1.1 q.1.1))

pub same_each : {A B C D E : Type 0} (f : B → C → D → E) {x y z : A} {v w u : B} {k l m : C} {g h i : D}
    → (x ≡ z) × ((v ≡ u) × ((k ≡ m) × (g ≡ i))) → (y ≡ z) × ((w ≡ u) × ((l ≡ m) × (h ≡ i))) → (x ≡ y) × (f v k g ≡ f w l h)
same_each f {v = v} {w = w} {k = k} {l = l} {g = g} {h = h} p q = (
  same p.0 q.0,
  ap (λ a. f a k g) (same p.1.0 q.1.0) ∙ ap (λ b. f w b g) (same p.1.1.0 q.1.1.0) ∙ ap (λ c. f w l c) (same p.1.1.1 q.1.1.1),
)
