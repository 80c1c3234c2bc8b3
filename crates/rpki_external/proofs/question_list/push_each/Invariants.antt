use Rattle.std.proofs.Common.{◌≡◌, ◌++◌, drop}
use Rattle.rpki_external.specs.Question.{under_each}
use Rattle.rpki_external.proofs.question_list.push_each.Given as goal

abbrev pub invariant-loop-key : goal.invariant-loop-key
invariant-loop-key l = l.list.items ++ under_each l.parts (drop l.key-index l.keys) ≡ l.initial.list.items ++ under_each l.parts l.keys
