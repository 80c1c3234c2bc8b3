-- Octets that begin with no certificate that is believed.
use Rattle.std.proofs.Common.{ℕ, List, sym, ◌∙◌}
use Rattle.std.specs.Prelude.{ℤ}
use Rattle.rpki_base.specs.Scheme.{Relation}
use Rattle.rpki_common.proofs.Truths.{none_some}
use Rattle.rpki_der.specs.declared.error.DecodeError.{DecodeError}
use Rattle.rpki_der.specs.declared.error.DecodeError.TheVariants as der
use Rattle.rpki_der.specs.declared.mode.Mode.TheVariants.{Der}
use Rattle.rpki_der.specs.Takes.{RefusesOctets}
use Rattle.rpki_idcert.specs.IdCert.{identity_certificate}
use Rattle.rpki_setup.specs.Answers.{of_der, RefusesCertificate}

pub no_certificate : (scheme : Relation) (octets : List ℕ) (when : ℤ) (e : DecodeError) → RefusesOctets (identity_certificate Der) Der octets e → RefusesCertificate scheme octets when (of_der e)
unfolding RefusesOctets
no_certificate scheme octets when der.Malformed refused = λ c b. none_some c (sym (refused b.value b.rest b.begins) ∙ b.reads)
no_certificate scheme octets when der.OutOfMemory refused = tt
