use Rattle.std.proofs.Common.{length}
use Rattle.rpki_common.specs.Chaining.{◌>>=◌}
use Rattle.rpki_der.specs.Grammar.{every, gather}
use Rattle.rpki_der.specs.Entry.{entry}
use Rattle.rpki_der.proofs.Counting.{CountedContinues}
use Rattle.rpki_sigmsg.specs.Attributes.{attributes}
use Rattle.rpki_sigmsg.specs.Gathered.{add_value, complete, shown}
use Rattle.rpki_sigmsg.proofs.attributes.take_signed_attributes.Given as goal

abbrev pub invariant-attributes : goal.invariant-attributes
invariant-attributes g l = CountedContinues 1 (λ vs. every entry vs >>= attributes l.fn.cursor.mode) l.initial.cursor l.initial.steps (λ vs. gather (add_value l.fn.cursor.mode) (shown l.found) vs >>= complete) l.cursor l.steps

abbrev pub decreases-attributes : goal.decreases-attributes
decreases-attributes g l = length l.cursor.here
