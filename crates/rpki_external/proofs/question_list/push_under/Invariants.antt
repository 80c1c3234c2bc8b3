use Rattle.std.proofs.Common.{◌≡◌, ◌++◌, drop, map}
use Rattle.rpki_external.specs.Question.{under}
use Rattle.rpki_external.proofs.question_list.push_under.Given as goal

abbrev pub invariant-loop-part : goal.invariant-loop-part
invariant-loop-part l = l.list.items ++ map (under l.key) (drop l.part-index l.parts) ≡ l.initial.list.items ++ map (under l.key) l.parts
