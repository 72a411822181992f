use Rattle.std.proofs.Common.{rules, arith, ◌≡◌, ℕ, zero, suc, ◌<◌, length, List, [], ◌∷◌, get_or, set, take, replicate, add-one, take_all, refl, ap, ◌∙◌}
use Rattle.message.specs.Rows.{slots}
use Rattle.message.specs.declared.Part.{Part}
use Rattle.message.specs.declared.Part.TheVariants as part
use Rattle.message.specs.declared.Slot.{Slot}
use Rattle.message.proofs.rows.slots.Goals as goal

abbrev slot_of : Part → Slot
slot_of p = record { part = p }

no_slots : (m : ℕ) → replicate m (slot_of part.Nothing) ≡ slots m []
no_slots zero = refl
no_slots (suc m) = ap (λ l. slot_of part.Nothing ∷ l) (no_slots m)

slots_next : (m i : ℕ) (ps : List Part) (d : Part) → i < m → i < length ps
    → set (slots m (take i ps)) i (slot_of (get_or ps i d)) ≡ slots m (take (suc i) ps)
slots_next zero i ps d h k = refl
slots_next (suc m) i [] d h k = search rules
slots_next (suc m) zero (p ∷ ps) d h k = refl
slots_next (suc m) (suc i) (p ∷ ps) d h k = ap (λ l. slot_of p ∷ l) (slots_next m i ps d (omega arith) (omega arith))

pub loop-i-init : goal.loop-i-init
loop-i-init g c = no_slots g.row.M

pub loop-i-preserved : goal.loop-i-preserved
loop-i-preserved g c =
    rw add-one
    (ap (λ l. set l c.loop-i.i (slot_of (get_or c.args.parts c.loop-i.i part.Nothing))) c.loop-i.invariant
    ∙ slots_next g.row.M c.loop-i.i c.args.parts part.Nothing (search rules) (search rules))

pub returns : goal.returns
returns g c = c.loop-i.invariant ∙ ap (λ l. slots g.row.M l) (take_all _ _ (grind arith))
