use Rattle.std.proofs.Common.{refl, rules}
use Rattle.rpki_c.proofs.KnownRecords.{one_read, says_nothing, unread}
use Rattle.rpki_c.proofs.known.all_in.Goals as goal

pub returns-in_default-clause-none : goal.returns-in_default-clause-none
returns-in_default-clause-none c =
    λ none. unread c.args.octets.now c.loop-rest.list.items c.loop-rest.rest.now c.loop-rest.invariant (search rules) (λ one more begins can. c.in_default.ensures.none refl _ more begins)

pub returns-in-None-clause-none : goal.returns-in-None-clause-none
returns-in-None-clause-none c =
    λ none. unread c.args.octets.now c.loop-rest.list.items c.loop-rest.rest.now c.loop-rest.invariant (search rules) (says_nothing c.loop-rest.rest.now _ c.in-Some.record.rest.now c.in-Some.ensures.some (search rules))

pub loop-rest-preserved : goal.loop-rest-preserved
loop-rest-preserved c =
    rw c.in_ok-push-in-Some-2.ensures.items (one_read c.args.octets.now c.loop-rest.list.items c.loop-rest.rest.now _ c.in-Some.record.rest.now c.in-Some-2.known c.loop-rest.invariant c.in-Some.ensures.some (search rules))
