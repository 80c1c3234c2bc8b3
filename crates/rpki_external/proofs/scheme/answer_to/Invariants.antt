use Rattle.std.proofs.Common.{◌≡◌, drop}
use Rattle.rpki_external.specs.Answers.{answer_to}
use Rattle.rpki_external.proofs.scheme.answer_to.Given as goal

abbrev pub invariant-loop-number : goal.invariant-loop-number
invariant-loop-number l = answer_to (drop l.number l.questions) (drop l.number l.answers) l.key l.message l.signature ≡ answer_to l.questions l.answers l.key l.message l.signature
