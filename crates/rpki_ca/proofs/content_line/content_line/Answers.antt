use Rattle.rpki_der.specs.declared.error.DecodeError.TheVariants.{Malformed}
use Rattle.rpki_publication.proofs.Refused.{no_signed}
use Rattle.rpki_ca.proofs.content_line.content_line.Goals as goal

pub returns-in-Err-Malformed-clause-err : goal.returns-in-Err-Malformed-clause-err
returns-in-Err-Malformed-clause-err c =
    λ _. no_signed Malformed c.args.octets.now (rw c.in-Err-Malformed.field-0-is at c.in-Err-Malformed.ensures)
