use Rattle.std.proofs.Common.{ap, is_some, rules}
use Rattle.rpki_c.proofs.KnownRecords.{there_known, there_unread}
use Rattle.rpki_c.proofs.known.there_in.Goals as goal

pub returns-in-Some-3-clause-some : goal.returns-in-Some-3-clause-some
returns-in-Some-3-clause-some c =
    let cut = c.in-Some.ensures.cases in
    rw c.new.ensures (there_known c.args.octets.now c.in-Some.digest.now c.in-Some.uri.now c.in-Some-2.digest c.in-Some-3.uri cut.1 cut.2 cut.3 (search rules) (search rules))

pub returns-in-None-clause-none : goal.returns-in-None-clause-none
returns-in-None-clause-none c =
    let cut = c.in-Some.ensures.cases in
    λ none. there_unread c.args.octets.now c.in-Some.digest.now c.in-Some.uri.now cut.1 cut.2 cut.3 (c.in_ok-uri.ensures.none (ap is_some c.in-None.is))
