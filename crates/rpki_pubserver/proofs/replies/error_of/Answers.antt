use Rattle.std.proofs.Common.{rules}
use Rattle.rpki_pubserver.specs.Messages.{error_about}
use Rattle.rpki_pubserver.proofs.Writable.{error_writable, ok_writable}
use Rattle.rpki_pubserver.proofs.replies.error_of.Goals as goal

pub returns-clause-message : goal.returns-clause-message
returns-clause-message c = search rules

pub returns-clause-writable : goal.returns-clause-writable
returns-clause-writable c = λ writable. ok_writable c.one_error.result (error_about (record { element = c.args.change.now; code = c.args.code })) (returns-clause-message c) (error_writable (record { element = c.args.change.now; code = c.args.code }) writable)
