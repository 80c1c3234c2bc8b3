use Rattle.std.proofs.Common.{length}
use Rattle.rpki_common.specs.Chaining.{◌>>=◌}
use Rattle.rpki_der.specs.Grammar.{gather, so}
use Rattle.rpki_der.proofs.Counting.{CountedContinues}
use Rattle.rpki_base.proofs.Extensions.{all_found}
use Rattle.rpki_cert.specs.Access.{access_description}
use Rattle.rpki_cert.specs.Gathered.{with_description}
use Rattle.rpki_cert.proofs.Gathering.{no_access}
use Rattle.rpki_cert.proofs.access.take_subject_info_access.Given as goal

abbrev pub invariant-descriptions : goal.invariant-descriptions
invariant-descriptions g l = CountedContinues 1 (gather (λ s. so access_description (with_description s)) no_access) l.initial.cursor l.initial.steps (λ vs. gather (λ s. so access_description (with_description s)) l.found vs >>= all_found) l.cursor l.steps

abbrev pub decreases-descriptions : goal.decreases-descriptions
decreases-descriptions g l = length l.cursor.here
