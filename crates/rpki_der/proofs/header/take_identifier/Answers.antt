use Rattle.rpki_der.proofs.Heads.{first_found}
use Rattle.rpki_der.proofs.header.take_identifier.Goals as goal

pub returns-clause-found : goal.returns-clause-found
returns-clause-found c =
    first_found c.args.octets.now c.split_at.result.0.now c.split_at.result.1.now c.in_ok-size.size c.in_ok-size.ensures.len c.split_at.ensures.front c.split_at.ensures.back
