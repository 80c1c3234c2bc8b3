-- What is received.
use Rattle.std.proofs.Common.{◌≡◌, ◌≢◌, ℕ, ℤ, Result, Ok, Err, List, refl, sym, subst, ◌∙◌}
use Rattle.rpki_base.specs.PublicKey.{KeyFields}
use Rattle.rpki_base.specs.declared.validation.ValidationError.{ValidationError}
use Rattle.rpki_sigmsg.specs.Checks.{IsFirstBelieved, IsAnyValidation}
use Rattle.rpki_sigmsg.specs.Message.{MessageFields}
use Rattle.rpki_sigmsg.specs.Beginning.{BeginsSigned}
use Rattle.rpki_publication.specs.Cms as publication_cms
use Rattle.rpki_publication.specs.declared.error.Error.{Error as PublicationError}
use Rattle.rpki_publication.specs.declared.error.Error.TheVariants as publication_error
use Rattle.rpki_provisioning.specs.Cms as provisioning_cms
use Rattle.rpki_updown.specs.declared.error.Error.{Error as ProvisioningError}
use Rattle.rpki_updown.specs.declared.error.Error.TheVariants as provisioning_error
use Rattle.rpki_ca.specs.declared.receiving.Kind.{Kind}
use Rattle.rpki_ca.specs.declared.receiving.Kind.TheVariants as kinds
use Rattle.rpki_ca.specs.declared.receiving.Received.{Received}
use Rattle.rpki_ca.specs.declared.receiving.ReceiveError.{ReceiveError}
use Rattle.rpki_ca.specs.declared.receiving.ReceiveError.TheVariants as errors
use Rattle.rpki_ca.specs.declared.refusals.Refusal.TheVariants as refusals
use Rattle.rpki_ca.specs.Answer.{IsReceiveAnswer, IsTextAccepted}
use Rattle.rpki_base.specs.Scheme.{Relation}
use Rattle.rpki_ca.specs.Acceptance.{ReadsAs, Accepted, AcceptedAt, FailsCheck, RefusesReceipt, IsReceived, IsReceivedUnder, FindsSigned, without_place, of_publication, of_provisioning, refusal_of, accepted_text}

-- ---- a message of the publication protocol

pub refused : (scheme : Relation) (octets : List ℕ) (keys : List KeyFields) (when : ℤ) (e : PublicationError) → publication_cms.RefusesCms octets e → RefusesReceipt scheme kinds.Publication octets keys when (of_publication e)
refused scheme octets keys when publication_error.CmsDecode r = r
refused scheme octets keys when (publication_error.XmlError e) r = r.1
refused scheme octets keys when (publication_error.Validation e) r = absurd r
refused scheme octets keys when publication_error.InvalidVersion r = absurd r
refused scheme octets keys when (publication_error.InvalidErrorCode t) r = absurd r
refused scheme octets keys when publication_error.NotQuery r = absurd r
refused scheme octets keys when publication_error.NotReply r = absurd r
refused scheme octets keys when publication_error.Read r = absurd r
refused scheme octets keys when publication_error.Write r = absurd r
refused scheme octets keys when publication_error.TooLong r = absurd r
refused scheme octets keys when publication_error.OutOfMemory r = tt

pub none_found : (X Y : Type 0) (octets : List ℕ) (e : PublicationError) → publication_cms.RefusesCms octets e → FindsSigned {X = X} (Err (of_publication e)) → publication_cms.FindsSigned {X = Y} (Err e)
none_found X Y octets publication_error.CmsDecode r f = f
none_found X Y octets (publication_error.XmlError e) r f = tt
none_found X Y octets (publication_error.Validation e) r f = absurd r
none_found X Y octets publication_error.OutOfMemory r f = f
none_found X Y octets publication_error.InvalidVersion r f = absurd r
none_found X Y octets (publication_error.InvalidErrorCode t) r f = absurd r
none_found X Y octets publication_error.NotQuery r f = absurd r
none_found X Y octets publication_error.NotReply r f = absurd r
none_found X Y octets publication_error.Read r f = absurd r
none_found X Y octets publication_error.Write r f = absurd r
none_found X Y octets publication_error.TooLong r f = absurd r

-- ---- a message of the provisioning protocol

pub refused_provisioning : (scheme : Relation) (octets : List ℕ) (keys : List KeyFields) (when : ℤ) (e : ProvisioningError) → provisioning_cms.RefusesCms octets e → RefusesReceipt scheme kinds.Provisioning octets keys when (of_provisioning e)
refused_provisioning scheme octets keys when provisioning_error.CmsDecode r = r
refused_provisioning scheme octets keys when (provisioning_error.XmlError e) r = r.1
refused_provisioning scheme octets keys when provisioning_error.CertSyntax r = r
refused_provisioning scheme octets keys when provisioning_error.InvalidCsrSyntax r = r
refused_provisioning scheme octets keys when (provisioning_error.Validation e) r = absurd r
refused_provisioning scheme octets keys when provisioning_error.InvalidVersion r = absurd r
refused_provisioning scheme octets keys when (provisioning_error.InvalidPayloadType e) r = absurd r
refused_provisioning scheme octets keys when (provisioning_error.Limit set limit) r = absurd r
refused_provisioning scheme octets keys when provisioning_error.Read r = absurd r
refused_provisioning scheme octets keys when provisioning_error.Write r = absurd r
refused_provisioning scheme octets keys when provisioning_error.TooLong r = absurd r
refused_provisioning scheme octets keys when provisioning_error.OutOfMemory r = tt

pub none_found_provisioning : (X Y : Type 0) (octets : List ℕ) (e : ProvisioningError) → provisioning_cms.RefusesCms octets e → FindsSigned {X = X} (Err (of_provisioning e)) → provisioning_cms.FindsSigned {X = Y} (Err e)
none_found_provisioning X Y octets provisioning_error.CmsDecode r f = f
none_found_provisioning X Y octets (provisioning_error.XmlError e) r f = tt
none_found_provisioning X Y octets provisioning_error.CertSyntax r f = tt
none_found_provisioning X Y octets provisioning_error.InvalidCsrSyntax r f = tt
none_found_provisioning X Y octets provisioning_error.OutOfMemory r f = f
none_found_provisioning X Y octets (provisioning_error.Validation e) r f = absurd r
none_found_provisioning X Y octets provisioning_error.InvalidVersion r f = absurd r
none_found_provisioning X Y octets (provisioning_error.InvalidPayloadType e) r f = absurd r
none_found_provisioning X Y octets (provisioning_error.Limit set limit) r f = absurd r
none_found_provisioning X Y octets provisioning_error.Read r f = absurd r
none_found_provisioning X Y octets provisioning_error.Write r f = absurd r
none_found_provisioning X Y octets provisioning_error.TooLong r f = absurd r

-- ---- of either kind

pub failed : (scheme : Relation) (kind : Kind) (octets : List ℕ) (keys : List KeyFields) (when : ℤ) (signed : MessageFields) (message : Received) (m : MessageFields) (e : ValidationError) (r : Result ℕ ValidationError) → r ≡ Err e → BeginsSigned octets signed → ReadsAs kind signed.content message
    → m ≡ signed → IsAnyValidation scheme m keys when r → FailsCheck scheme kind octets keys when e
failed scheme kind octets keys when signed message m e r is begins reads same v =
    let here = subst (λ (n : MessageFields). IsAnyValidation scheme n keys when r) same v in
    record {
      signed = signed;
      begins = begins;
      message = message;
      reads = reads;
      none = here.none e is;
      greatest = λ os h. sym (here.first_failing os h) ∙ is;
    }

pub accepted : (scheme : Relation) (kind : Kind) (octets : List ℕ) (keys : List KeyFields) (when : ℤ) (signed : MessageFields) (message : Received) (m : MessageFields) (place : ℕ) → BeginsSigned octets signed → ReadsAs kind signed.content message
    → m ≡ signed → IsFirstBelieved scheme m keys when place → AcceptedAt scheme kind octets keys when message place
accepted scheme kind octets keys when signed message m place begins reads same believed =
    record { signed = signed; begins = begins; believed = subst (λ (n : MessageFields). IsFirstBelieved scheme n keys when place) same believed; reads = reads }

-- ---- without the place

pub under_some : (scheme : Relation) (kind : Kind) (octets : List ℕ) (keys : List KeyFields) (when : ℤ) (m : Received) (place : ℕ) → AcceptedAt scheme kind octets keys when m place → Accepted scheme kind octets keys when m
under_some scheme kind octets keys when m place a = record {
  signed = a.signed;
  begins = a.begins;
  believed = record {
    key = a.believed.key;
    among = record { before = a.believed.before; behind = a.believed.behind; parts = a.believed.parts };
    believed = a.believed.believed;
  };
  reads = a.reads;
}

pub received_under : (scheme : Relation) (kind : Kind) (octets : List ℕ) (keys : List KeyFields) (when : ℤ) (r : Result (Received × ℕ) ReceiveError) → IsReceivedUnder scheme kind octets keys when r → IsReceived scheme kind octets keys when (without_place r)
received_under scheme kind octets keys when (Ok (m, place)) a = under_some scheme kind octets keys when m place a
received_under scheme kind octets keys when (Err e) a = a

pub found_under : (r : Result (Received × ℕ) ReceiveError) → FindsSigned (without_place r) → FindsSigned r
found_under (Ok (m, place)) f = tt
found_under (Err errors.CmsDecode) f = f
found_under (Err errors.XmlError) f = tt
found_under (Err errors.CertSyntax) f = tt
found_under (Err errors.InvalidCsrSyntax) f = tt
found_under (Err (errors.Validation e)) f = tt
found_under (Err errors.OutOfMemory) f = f

-- ---- the answer of the command

pub text_accepted : (scheme : Relation) (kind : Kind) (octets : List ℕ) (keys : List KeyFields) (when : ℤ) (signed : MessageFields) (message : Received) (m : MessageFields) (place : ℕ) (text : List ℕ) → BeginsSigned octets signed → ReadsAs kind signed.content message
    → m ≡ signed → IsFirstBelieved scheme m keys when place → text ≡ accepted_text message → IsTextAccepted scheme kind octets keys when text
text_accepted scheme kind octets keys when signed message m place text begins reads same believed written = record {
  message = message;
  accepted = under_some scheme kind octets keys when message place (accepted scheme kind octets keys when signed message m place begins reads same believed);
  written = written;
}

pub refusal : (scheme : Relation) (kind : Kind) (octets : List ℕ) (keys : List KeyFields) (when : ℤ) (e : ReceiveError) → RefusesReceipt scheme kind octets keys when e → refusal_of e ≢ refusals.OutOfMemory → IsReceiveAnswer scheme kind octets keys when (Err (refusal_of e))
refusal scheme kind octets keys when errors.CmsDecode r other = r
refusal scheme kind octets keys when errors.XmlError r other = r
refusal scheme kind octets keys when errors.CertSyntax r other = r
refusal scheme kind octets keys when errors.InvalidCsrSyntax r other = r
refusal scheme kind octets keys when (errors.Validation e) r other = record { error = e; fails = r; number = refl }
refusal scheme kind octets keys when errors.OutOfMemory r other = absurd (other refl)
