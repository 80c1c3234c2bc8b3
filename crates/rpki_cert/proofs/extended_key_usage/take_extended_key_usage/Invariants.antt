use Rattle.std.proofs.Common.{length, []}
use Rattle.rpki_common.specs.Chaining.{◌>>=◌}
use Rattle.rpki_der.specs.Grammar.{gather, so}
use Rattle.rpki_der.specs.Oid.{oid}
use Rattle.rpki_der.proofs.Counting.{CountedContinues}
use Rattle.rpki_cert.specs.ExtendedKeyUsage.{some_of}
use Rattle.rpki_cert.proofs.Lists.{and_one}
use Rattle.rpki_cert.proofs.extended_key_usage.take_extended_key_usage.Given as goal

abbrev pub invariant-purposes : goal.invariant-purposes
invariant-purposes g l = CountedContinues 1 (λ vs. gather (λ s. so oid (and_one s)) [] vs >>= some_of) l.initial.cursor l.initial.steps (λ vs. gather (λ s. so oid (and_one s)) l.oids.items vs >>= some_of) l.cursor l.steps

abbrev pub decreases-purposes : goal.decreases-purposes
decreases-purposes g l = length l.cursor.here
