use Rattle.std.proofs.Common.{length}
use Rattle.rpki_common.specs.Chaining.{◌>>=◌}
use Rattle.rpki_der.specs.Grammar.{gather, so}
use Rattle.rpki_der.proofs.Counting.{CountedContinues}
use Rattle.rpki_base.specs.Extension.{extension}
use Rattle.rpki_base.proofs.Extensions.{all_found}
use Rattle.rpki_base.proofs.extension.take_extensions_counted.Given as goal

abbrev pub invariant-extensions : goal.invariant-extensions
invariant-extensions g l = CountedContinues 2 (gather (λ s. so (extension l.fn.cursor.mode) (g.F.FindsExtensions.with s)) l.fn.found) l.initial.cursor l.initial.steps (λ vs. gather (λ s. so (extension l.fn.cursor.mode) (g.F.FindsExtensions.with s)) l.found vs >>= all_found) l.cursor l.steps

abbrev pub decreases-extensions : goal.decreases-extensions
decreases-extensions g l = length l.cursor.here
