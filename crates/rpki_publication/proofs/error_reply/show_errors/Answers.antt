use Rattle.std.proofs.Common.{◌++◌, rules}
use Rattle.std.proofs.Output.{has_written_append}
use Rattle.rpki_publication.specs.ErrorReply.{shown_one}
use Rattle.rpki_publication.proofs.Loops.{shown_step}
use Rattle.rpki_publication.proofs.error_reply.show_errors.Goals as goal

pub errors-preserved : goal.errors-preserved
errors-preserved g c = λ plain.
    let now = c.errors.invariant plain in (
      now.0 ++ shown_one c.in-Some.error.now,
      has_written_append _ _ _ _ _ _ now.1 (c.show_error.ensures now.1.plain (search rules)),
      shown_step c.errors.left.now c.in-Some.more.now c.in-Some.error.now now.0 _ c.in-Some.ensures.cases.0 now.2,
    )
