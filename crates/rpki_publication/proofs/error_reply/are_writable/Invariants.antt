use Rattle.std.proofs.Common.{take}
use Rattle.std.specs.List.{AllByRecursion}
use Rattle.rpki_publication.specs.ReportError.{IsWritableError}
use Rattle.rpki_publication.proofs.error_reply.are_writable.Given as goal

abbrev pub invariant-loop-error : goal.invariant-loop-error
invariant-loop-error l = AllByRecursion IsWritableError (take l.error-index l.errors)
