use Rattle.std.proofs.Common.{length}
use Rattle.rpki_common.specs.Chaining.{◌>>=◌}
use Rattle.rpki_der.specs.Grammar.{every}
use Rattle.rpki_der.proofs.Counting.{CountedContinues}
use Rattle.rpki_base.specs.Name.{unread, each, relative_name}
use Rattle.rpki_base.proofs.name.pass_relative_names.Given as goal

abbrev pub invariant-names : goal.invariant-names
invariant-names g l = CountedContinues 1 (each relative_name) l.initial.cursor l.initial.steps (λ vs. every relative_name vs >>= unread) l.cursor l.steps

abbrev pub decreases-names : goal.decreases-names
decreases-names g l = length l.cursor.here
