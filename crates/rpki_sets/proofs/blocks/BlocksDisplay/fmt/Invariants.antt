use Rattle.std.proofs.Common.{◌+◌, take}
use Rattle.std.specs.Fmt.{HasWritten, IsPlainFormatter}
use Rattle.rpki_sets.specs.Kinds.{printed}
use Rattle.rpki_sets.proofs.blocks.BlocksDisplay.fmt.Given as goal

abbrev pub invariant-each : goal.invariant-each
invariant-each g l =
    IsPlainFormatter l.fn.f → HasWritten g.W.Write.write_str_gives l.fn.f (printed g.N.Numbers.kind (take (l.run-index + 1) l.self)) l.f
