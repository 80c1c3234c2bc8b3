-- Octets that are not read.
use Rattle.std.proofs.Common.{ℕ, List, sym, ◌∙◌}
use Rattle.rpki_der.specs.declared.error.DecodeError.{DecodeError}
use Rattle.rpki_der.specs.declared.error.DecodeError.TheVariants as der
use Rattle.rpki_der.specs.declared.mode.Mode.TheVariants.{Ber}
use Rattle.rpki_der.specs.Takes.{RefusesOctets}
use Rattle.rpki_sigmsg.specs.Message.{MessageFields, signed_message}
use Rattle.rpki_updown.specs.declared.error.Error.{Error}
use Rattle.rpki_updown.specs.declared.error.Error.TheVariants as errors
use Rattle.rpki_provisioning.specs.Answers.{RefusesMessage, of_der}
use Rattle.rpki_sigmsg.specs.Beginning.{BeginsSigned}
use Rattle.rpki_provisioning.specs.Cms.{RefusesCms}
use Rattle.rpki_common.proofs.Truths.{none_some}

-- ---- as a signed message

pub no_signed : (e : DecodeError) (b : List ℕ) → RefusesOctets (signed_message Ber) Ber b e → RefusesCms b (of_der e)
unfolding RefusesOctets
no_signed der.OutOfMemory b refused = tt
no_signed der.Malformed b refused = λ signed s. none_some signed (sym (refused s.value s.rest s.begins) ∙ s.reads)

pub no_content : (e : Error) (b : List ℕ) (signed : MessageFields) → BeginsSigned b signed → RefusesMessage signed.content e → RefusesCms b e
no_content (errors.XmlError e) b signed begins refused = (refused.0, record { signed = signed; begins = begins; content = refused.1 })
no_content errors.CertSyntax b signed begins refused = record { signed = signed; begins = begins; content = refused }
no_content errors.InvalidCsrSyntax b signed begins refused = record { signed = signed; begins = begins; content = refused }
no_content errors.OutOfMemory b signed begins refused = tt
no_content errors.CmsDecode b signed begins refused = absurd refused
no_content errors.InvalidVersion b signed begins refused = absurd refused
no_content (errors.InvalidPayloadType e) b signed begins refused = absurd refused
no_content (errors.Validation e) b signed begins refused = absurd refused
no_content (errors.Limit set limit) b signed begins refused = absurd refused
no_content errors.Read b signed begins refused = absurd refused
no_content errors.Write b signed begins refused = absurd refused
no_content errors.TooLong b signed begins refused = absurd refused
