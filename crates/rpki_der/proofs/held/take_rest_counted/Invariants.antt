use Rattle.std.proofs.Common.{length}
use Rattle.rpki_common.specs.Chaining.{◌>>=◌}
use Rattle.rpki_der.specs.Grammar.{every, any, anything}
use Rattle.rpki_der.proofs.Counting.{CountedContinues}
use Rattle.rpki_der.proofs.Leftovers.{passed_over}
use Rattle.rpki_der.proofs.held.take_rest_counted.Given as goal

abbrev pub invariant-values : goal.invariant-values
invariant-values g l = CountedContinues 1 anything l.initial.cursor l.initial.steps (λ vs. every any vs >>= passed_over) l.cursor l.steps

abbrev pub decreases-values : goal.decreases-values
decreases-values g l = length l.cursor.here
