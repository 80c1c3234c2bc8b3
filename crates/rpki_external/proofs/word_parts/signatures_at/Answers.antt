use Rattle.std.proofs.Common.{refl}
use Rattle.rpki_external.proofs.word_parts.signatures_at.Goals as goal

pub returns-in_default-clause-none : goal.returns-in_default-clause-none
returns-in_default-clause-none c = λ _ s are. (rw c.in_default.is at c.in_ok-attributes.ensures.none) refl s.attributes are.attributes

pub returns-in_default-2-clause-none : goal.returns-in_default-2-clause-none
returns-in_default-2-clause-none c = λ _ s are. (rw c.in_default-2.is at c.in_ok-crl.ensures.none) refl s.crl are.crl

pub returns-in-None-clause-none : goal.returns-in-None-clause-none
returns-in-None-clause-none c = λ _ s are. (rw c.in-None.is at c.in_ok-certificate.ensures.none) refl s.certificate are.certificate
