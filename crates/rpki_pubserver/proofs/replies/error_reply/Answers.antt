use Rattle.std.proofs.Common.{rules}
use Rattle.rpki_pubserver.specs.Messages.{error_alone}
use Rattle.rpki_pubserver.proofs.Writable.{alone_writable, ok_writable}
use Rattle.rpki_pubserver.proofs.replies.error_reply.Goals as goal

pub returns-clause-message : goal.returns-clause-message
returns-clause-message c = search rules

pub returns-clause-writable : goal.returns-clause-writable
returns-clause-writable c = ok_writable c.one_error.result (error_alone c.args.code) (returns-clause-message c) (alone_writable c.args.code)
