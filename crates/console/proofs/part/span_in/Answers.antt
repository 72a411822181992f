use Rattle.std.proofs.Common.{ℕ, ◌+◌, get_or, ap, ◌∙◌, arith}
use Rattle.layouts.proofs.PlaceLaws.{list_spans, none_spans, ends_span}
use Rattle.console.proofs.part.span_in.Goals as goal

pub returns-then-m-lt16 : goal.returns-then-m-lt16
returns-then-m-lt16 c =
    (omega arith, λ v l. list_spans c.args.profile.now c.args.area.now v l _ (omega (arith, c.if-range-gt15.false, c.from-range.ensures)) (c.byte_at-m.ensures ∙ ap (λ (x : ℕ). get_or c.args.profile.now (6 + x) 0) c.from-range.ensures) c.if-m-lt16.true)

pub returns-then-m-eq16 : goal.returns-then-m-eq16
returns-then-m-eq16 c =
    (omega arith, λ v l. none_spans c.args.profile.now c.args.area.now v l _ (omega (arith, c.if-range-gt15.false, c.from-range.ensures)) (c.byte_at-m.ensures ∙ ap (λ (x : ℕ). get_or c.args.profile.now (6 + x) 0) c.from-range.ensures) c.if-m-eq16.true)

pub returns-then-last-first : goal.returns-then-last-first
returns-then-last-first c =
    (omega arith, λ v l. ends_span c.args.profile.now c.args.area.now v l _ (omega (arith, c.if-range-gt15.false, c.from-range.ensures)) (c.byte_at-m.ensures ∙ ap (λ (x : ℕ). get_or c.args.profile.now (6 + x) 0) c.from-range.ensures) (omega (arith, c.if-m-lt16.false, c.if-m-eq16.false, c.if-m-gt17.false)) _ _ _ c.triple-first.ensures.0 c.triple-last.ensures.0 (omega (arith, c.if-last-first.true)))

pub returns-then-last-first-gt63 : goal.returns-then-last-first-gt63
returns-then-last-first-gt63 c =
    (omega arith, λ v l. ends_span c.args.profile.now c.args.area.now v l _ (omega (arith, c.if-range-gt15.false, c.from-range.ensures)) (c.byte_at-m.ensures ∙ ap (λ (x : ℕ). get_or c.args.profile.now (6 + x) 0) c.from-range.ensures) (omega (arith, c.if-m-lt16.false, c.if-m-eq16.false, c.if-m-gt17.false)) _ _ _ c.triple-first.ensures.0 c.triple-last.ensures.0 (omega (arith, c.if-last-first-gt63.true, c.if-last-first.false)))

pub returns : goal.returns
returns c =
    (omega (arith, c.if-last-first-gt63.false, c.if-last-first.false), λ v l. ends_span c.args.profile.now c.args.area.now v l _ (omega (arith, c.if-range-gt15.false, c.from-range.ensures)) (c.byte_at-m.ensures ∙ ap (λ (x : ℕ). get_or c.args.profile.now (6 + x) 0) c.from-range.ensures) (omega (arith, c.if-m-lt16.false, c.if-m-eq16.false, c.if-m-gt17.false)) _ _ _ c.triple-first.ensures.0 c.triple-last.ensures.0 (omega (arith, c.if-last-first-gt63.false, c.if-last-first.false)))
