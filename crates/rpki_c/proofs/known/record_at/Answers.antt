use Rattle.rpki_c.proofs.KnownRecords.{begins_record}
use Rattle.rpki_c.proofs.known.record_at.Goals as goal

pub returns-clause-some : goal.returns-clause-some
returns-clause-some c =
    let first = c.in_ok-count.ensures.cases in
    let then = c.in_ok-octets.ensures.cases in
    begins_record c.args.octets.now c.in_ok-count.count.now c.in_ok-count.behind.now c.in_ok-octets.octets.now c.in_ok-octets.rest.now 8 c.number_of.result c.in-len1-up.len_at_least first.0 first.1 c.number_of.ensures then.1 then.2 then.3 c.number_of.type_inv
