use Rattle.std.proofs.Common.{inl, inr, refl}
use Rattle.rpki_external.proofs.WordParts.{is_digit}
use Rattle.rpki_external.proofs.word_parts.answers_of.Goals as goal

pub returns-in-None-clause-none : goal.returns-in-None-clause-none
returns-in-None-clause-none c = λ _ answers are.
    let no_digit = c.in-None.ensures.none refl in
    elim (is_digit c.as_bytes-digit-items.result.now c.args.word.now c.loop-digit.digit-index answers c.as_bytes-digit-items.ensures.value c.loop-digit-test.true are) [
      | inl e ↦ no_digit.1 e
      | inr e ↦ no_digit.0 e
    ]
