use Rattle.std.proofs.Common.{ℕ, List, sym, ap, ◌∙◌, arith}
use Rattle.bits.specs.Fields.{bit_at}
use Rattle.lines.proofs.SayLaws.{say_read}
use Rattle.lines.specs.Saying.{answer_of, text_of}
use Rattle.message.specs.Reading.{whole_of}
use Rattle.profile.specs.Sample.{sample}
use Rattle.lines.proofs.said_in.Goals as goal

pub decode-requires : goal.decode-requires
decode-requires c = omega (arith, c.requires.0.held, c.requires.0.inside, c.requires.1)

pub answered-requires : goal.answered-requires
answered-requires c =
    omega (arith, c.before.before.before.before.before.before.before.requires.0.some, c.before.before.before.before.before.before.before.requires.0.most, c.before.before.before.before.before.before.before.requires.1)

pub returns : goal.returns
returns c =
    c.answered.ensures ∙ ap (λ (l : List ℕ). text_of (answer_of (whole_of sample.air (bit_at l) c.before.before.before.before.before.before.before.before.args.bits))) c.decode.ensures
    ∙ ap (λ (xs : List ℕ). text_of xs) (sym (say_read _ _ _ c.before.before.before.before.before.before.before.before.requires.0 _ c.before.before.before.before.before.before.before.before.requires.1))
