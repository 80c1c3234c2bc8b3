use Rattle.std.proofs.Common.{◌∙◌, sym}
use Rattle.rpki_external.proofs.Passing.{passed}
use Rattle.rpki_external.proofs.scheme.answer_to.Goals as goal

pub loop-number-preserved : goal.loop-number-preserved
loop-number-preserved c =
    passed c.args.questions.now c.args.answers.now c.loop-number.number c.index-questions-number.result c.args.key.now c.args.message.now c.args.signature.now c.loop-number-test.true c.index-questions-number.is (sym c.asks.ensures ∙ c.if-asks.false)
    ∙ c.loop-number.invariant
