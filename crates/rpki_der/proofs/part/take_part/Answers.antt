use Rattle.rpki_der.proofs.Heads.{if_none}
use Rattle.rpki_der.proofs.Parts.{no_part_identifier}
use Rattle.rpki_der.proofs.part.take_part.Goals as goal

pub returns-in_err-identifier-clause-none : goal.returns-in_err-identifier-clause-none
returns-in_err-identifier-clause-none c = if_none _ _ (no_part_identifier c.args.mode c.args.here.now c.in_err-identifier.ensures.none)
