use Rattle.std.proofs.Common.{◌≡◌, ◌++◌, Some, map}
use Rattle.rpki_ca.specs.Sent.{sent_in}
use Rattle.rpki_ca.proofs.sent.messages_in.Given as goal

abbrev pub invariant-loop-line : goal.invariant-loop-line
invariant-loop-line l = map Some (map (λ m. m.items) l.messages.items) ++ map sent_in l.line-iterator ≡ map sent_in l.initial.line-iterator
