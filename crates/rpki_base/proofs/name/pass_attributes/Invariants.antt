use Rattle.std.proofs.Common.{length}
use Rattle.rpki_common.specs.Chaining.{◌>>=◌}
use Rattle.rpki_der.specs.Grammar.{every}
use Rattle.rpki_der.proofs.Counting.{CountedContinues}
use Rattle.rpki_base.specs.Name.{unread, each, name_attribute}
use Rattle.rpki_base.proofs.name.pass_attributes.Given as goal

abbrev pub invariant-attributes : goal.invariant-attributes
invariant-attributes g l = CountedContinues 1 (each name_attribute) l.initial.cursor l.initial.steps (λ vs. every name_attribute vs >>= unread) l.cursor l.steps

abbrev pub decreases-attributes : goal.decreases-attributes
decreases-attributes g l = length l.cursor.here
