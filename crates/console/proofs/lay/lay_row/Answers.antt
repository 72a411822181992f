use Rattle.std.proofs.Common.{sym, ◌∙◌, arith}
use Rattle.std.proofs.lemmas.Bool.{not-false}
use Rattle.std.proofs.lemmas.Option.{IfSome_then}
use Rattle.bits.specs.Fields.{bit_at}
use Rattle.console.proofs.LayLaws.{one_bit}
use Rattle.layouts.proofs.RowReads.{RowLays, no_options, with_options, without_options, row_lays}
use Rattle.layouts.specs.Profiles.{air_from}
use Rattle.console.proofs.lay.lay_row.Goals as goal

pub lay_parts-requires : goal.lay_parts-requires
lay_parts-requires c = c.requires.1

pub returns-then-row-eq0 : goal.returns-then-row-eq0
returns-then-row-eq0 c =
    row_lays (air_from c.args.profile.now) c.args.buf.now c.args.pdu c.row_of-row.result c.row_of-row.ensures (not-false _ c.if-not-row.false) c.args.area.now _ _ _ _ c.requires.0 c.in_ok-next.ensures.1 (λ w h. without_options (air_from c.args.profile.now) (bit_at c.args.buf.now) w c.row_of-row.result.options c.row_of-row.result.optional _ _ h c.if-row-eq0.true)

pub overflow_add-result : goal.overflow_add-result
overflow_add-result c = omega (arith, c.in_ok-next.ensures.0)

pub returns-then-bit-eq0 : goal.returns-then-bit-eq0
returns-then-bit-eq0 c =
    row_lays (air_from c.args.profile.now) c.args.buf.now c.args.pdu c.row_of-row.result c.row_of-row.ensures (not-false _ c.if-not-row.false) c.args.area.now _ _ _ _ c.requires.0 c.in_ok-next.ensures.1 (λ w h. no_options (air_from c.args.profile.now) (bit_at c.args.buf.now) w c.row_of-row.result.options c.row_of-row.result.optional _ c.if-row-eq0.false _ h (sym c.bit.ensures ∙ c.if-bit-eq0.true))

pub overflow_add-next : goal.overflow_add-next
overflow_add-next c = omega (arith, c.in_ok-next.ensures.0)

pub lay_behind-requires : goal.lay_behind-requires
lay_behind-requires c = (c.requires.1, omega (arith, c.in_ok-next.ensures.0))

pub returns : goal.returns
returns c =
    IfSome_then _ {Q = λ n. RowLays (air_from c.args.profile.now) c.args.buf.now c.args.pdu c.lay_behind.new.area n} c.lay_behind.ensures
    (λ n x. row_lays (air_from c.args.profile.now) c.args.buf.now c.args.pdu c.row_of-row.result c.row_of-row.ensures (not-false _ c.if-not-row.false) c.args.area.now _ _ _ _ c.requires.0 c.in_ok-next.ensures.1 (λ w h. with_options (air_from c.args.profile.now) (bit_at c.args.buf.now) w c.row_of-row.result.options c.row_of-row.result.optional _ c.if-row-eq0.false _ _ (one_bit c.args.buf.now _ _ c.bit.ensures c.if-bit-eq0.false) (x w h)))
