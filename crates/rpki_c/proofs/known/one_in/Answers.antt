use Rattle.std.proofs.Common.{ap, is_some}
use Rattle.rpki_c.proofs.KnownRecords.{absent_unread}
use Rattle.rpki_c.proofs.known.one_in.Goals as goal

pub returns-in-None-clause-none : goal.returns-in-None-clause-none
returns-in-None-clause-none c = λ none. absent_unread c.args.tag c.args.octets.now c.in-23.is (c.in_ok-uri-in-23.ensures.none (ap is_some c.in-None.is))
