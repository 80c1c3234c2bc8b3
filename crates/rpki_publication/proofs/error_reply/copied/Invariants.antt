use Rattle.std.proofs.Common.{◌≡◌, take}
use Rattle.rpki_publication.proofs.error_reply.copied.Given as goal

abbrev pub invariant-loop-e : goal.invariant-loop-e
invariant-loop-e l = l.copies.items ≡ take l.e-index l.fn.errors
