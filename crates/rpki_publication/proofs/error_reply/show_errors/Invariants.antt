use Rattle.std.proofs.Common.{◌≡◌, ℕ, List, ◌++◌, length}
use Rattle.std.specs.Fmt.{HasWritten, IsPlainFormatter}
use Rattle.rpki_publication.specs.ErrorReply.{shown_errors}
use Rattle.rpki_publication.proofs.error_reply.show_errors.Given as goal

abbrev pub invariant-errors : goal.invariant-errors
invariant-errors g l =
    IsPlainFormatter l.initial.f
    → (front : List ℕ) × HasWritten g.W.Write.write_str_gives l.initial.f front l.f × (front ++ shown_errors l.left ≡ shown_errors l.fn.errors)

abbrev pub decreases-errors : goal.decreases-errors
decreases-errors g l = length l.left
