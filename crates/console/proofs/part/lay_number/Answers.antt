use Rattle.std.proofs.Common.{ℕ, refl, ap, ◌∙◌, arith}
use lib.Seq.{sets}
use Rattle.bits.proofs.FieldLaws.{bit_lt, field_below}
use Rattle.bits.specs.Fields.{bit_at}
use Rattle.layouts.proofs.PartLaws.{identifier_lay, mni_lay, cause_lay, calling_area_lay, called_area_lay, calling_service_lay, called_service_lay}
use Rattle.layouts.specs.Bytes.{number_bytes}
use Rattle.layouts.specs.Profiles.{air_from}
use Rattle.console.proofs.part.lay_number.Goals as goal

pub returns-in-0 : goal.returns-in-0
returns-in-0 c =
    λ v l. rw c.in-0.is (identifier_lay (air_from c.args.profile.now) (bit_at c.args.buf.now) (bit_lt c.args.buf.now) c.args.area.now _ c.args.at _ v l refl (c.put_run.ensures ∙ ap (λ (x : ℕ). sets c.args.area.now 119 (number_bytes 2 x)) c.take.ensures))

pub overflow_cast-area : goal.overflow_cast-area
overflow_cast-area c =
    omega (arith, c.take-in-1.ensures, field_below 8 c.args.buf.now c.args.at 5 (omega arith))

pub returns-in-1 : goal.returns-in-1
returns-in-1 c =
    λ v l. rw c.in-1.is (cause_lay (air_from c.args.profile.now) (bit_at c.args.buf.now) (bit_lt c.args.buf.now) c.args.area.now _ c.args.at _ v l _ c.take-in-1.ensures refl refl)

pub returns-in-4 : goal.returns-in-4
returns-in-4 c =
    λ v l. rw c.in-4.is (mni_lay (air_from c.args.profile.now) (bit_at c.args.buf.now) (bit_lt c.args.buf.now) c.args.area.now _ c.args.at _ v l refl (c.put_run-in-4.ensures ∙ ap (λ (x : ℕ). sets c.args.area.now 234 (number_bytes 3 x)) c.take-in-4.ensures))

pub overflow_cast-area-in-5 : goal.overflow_cast-area-in-5
overflow_cast-area-in-5 c =
    omega (arith, c.take-in-5.ensures, field_below 8 c.args.buf.now c.args.at 4 (omega arith))

pub returns-in-5 : goal.returns-in-5
returns-in-5 c =
    λ v l. rw c.in-5.is (calling_area_lay (air_from c.args.profile.now) (bit_at c.args.buf.now) (bit_lt c.args.buf.now) c.args.area.now _ c.args.at _ v l _ c.take-in-5.ensures refl refl)

pub overflow_cast-area-in-6 : goal.overflow_cast-area-in-6
overflow_cast-area-in-6 c =
    omega (arith, c.take-in-6.ensures, field_below 8 c.args.buf.now c.args.at 4 (omega arith))

pub returns-in-6 : goal.returns-in-6
returns-in-6 c =
    λ v l. rw c.in-6.is (called_area_lay (air_from c.args.profile.now) (bit_at c.args.buf.now) (bit_lt c.args.buf.now) c.args.area.now _ c.args.at _ v l _ c.take-in-6.ensures refl refl)

pub overflow_cast-area-in-7 : goal.overflow_cast-area-in-7
overflow_cast-area-in-7 c =
    omega (arith, c.take-in-7.ensures, field_below 8 c.args.buf.now c.args.at 2 (omega arith))

pub returns-in-7 : goal.returns-in-7
returns-in-7 c =
    λ v l. rw c.in-7.is (calling_service_lay (air_from c.args.profile.now) (bit_at c.args.buf.now) (bit_lt c.args.buf.now) c.args.area.now _ c.args.at _ v l _ c.take-in-7.ensures refl refl)

pub overflow_cast-area-in-8 : goal.overflow_cast-area-in-8
overflow_cast-area-in-8 c =
    omega (arith, c.take-in-8.ensures, field_below 8 c.args.buf.now c.args.at 2 (omega arith))

pub returns-in-8 : goal.returns-in-8
returns-in-8 c =
    λ v l. rw c.in-8.is (called_service_lay (air_from c.args.profile.now) (bit_at c.args.buf.now) (bit_lt c.args.buf.now) c.args.area.now _ c.args.at _ v l _ c.take-in-8.ensures refl refl)
