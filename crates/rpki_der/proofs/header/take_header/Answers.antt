use Rattle.rpki_der.proofs.Heads.{header_found, no_length, if_none}
use Rattle.rpki_der.proofs.header.take_header.Goals as goal

pub returns-clause-found : goal.returns-clause-found
returns-clause-found c =
    header_found c.args.mode c.args.identifier.now c.args.behind.now c.split_at.result.1.now c.in_ok-length.count c.in_ok-length.length c.requires.identifier c.in_ok-length.ensures.size c.split_at.ensures.back

pub returns-in_err-length-clause-none : goal.returns-in_err-length-clause-none
returns-in_err-length-clause-none c = if_none _ _ (no_length c.args.mode c.args.identifier.now c.args.behind.now c.requires.identifier c.in_err-length.ensures.size)
