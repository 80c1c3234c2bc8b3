use Rattle.std.proofs.Common.{◌∙◌, ap, map, refl}
use Rattle.rpki_ca.specs.Sent.{sent_in}
use Rattle.rpki_ca.proofs.SentLines.{not_sent}
use Rattle.rpki_ca.proofs.sent.messages_in.Goals as goal

pub returns-in-None-2-clause-none : goal.returns-in-None-2-clause-none
returns-in-None-2-clause-none c = λ n messages are.
    not_sent sent_in (map (λ m. m.items) c.loop-line.messages.items) c.loop-line.line-iterator c.next.new.self c.args.lines c.in-Some.line.now (c.loop-line.invariant ∙ ap (map sent_in) c.into_iter-line-iterator.ensures.into_iter_gives) c.in-Some.ensures.steps
    ((rw c.in-None-2.is at c.in_ok-octets.ensures.none) refl) messages are
