use Rattle.std.proofs.Common.{length}
use Rattle.rpki_common.specs.Chaining.{◌>>=◌}
use Rattle.rpki_der.specs.Grammar.{every}
use Rattle.rpki_der.proofs.Counting.{CountedContinues}
use Rattle.rpki_sigmsg.specs.RevokedCertificates.{crl_entry}
use Rattle.rpki_sigmsg.proofs.Entries.{and_more}
use Rattle.rpki_sigmsg.proofs.revoked.RevokedCertificates.take_from_counted.Given as goal

abbrev pub invariant-entries : goal.invariant-entries
invariant-entries g l = CountedContinues 1 (every crl_entry) l.initial.cursor l.initial.steps (λ vs. every crl_entry vs >>= and_more l.entries.items) l.cursor l.steps

abbrev pub decreases-entries : goal.decreases-entries
decreases-entries g l = length l.cursor.here
