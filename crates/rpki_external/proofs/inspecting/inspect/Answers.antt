use Rattle.rpki_der.specs.declared.error.DecodeError.TheVariants.{Malformed}
use Rattle.rpki_publication.proofs.Refused.{no_signed}
use Rattle.rpki_external.proofs.inspecting.inspect.Goals as goal

pub returns-in-Err-clause-err : goal.returns-in-Err-clause-err
returns-in-Err-clause-err c = λ e. no_signed Malformed c.args.octets.now (rw e at c.in-Err.ensures)
