-- Why octets are no message of a kind: there is one reason, and none where they are one.
use Rattle.std.proofs.Common.{◌≡◌, ◌≢◌, ◌⊎◌, inl, inr, ℕ, List, refl, sym, ◌∙◌}
use Rattle.rpki_provisioning.proofs.Excludes as excludes
use Rattle.rpki_publication.specs.declared.error.Error.{Error as PublicationError}
use Rattle.rpki_publication.specs.declared.error.Error.TheVariants as publication
use Rattle.rpki_publication.specs.Answers as publication_answers
use Rattle.rpki_updown.specs.declared.error.Error.{Error as ProvisioningError}
use Rattle.rpki_updown.specs.declared.error.Error.TheVariants as provisioning
use Rattle.rpki_provisioning.specs.Answers as provisioning_answers
use Rattle.rpki_xml.specs.declared.error.XmlError.TheVariants as xml
use Rattle.rpki_ca.specs.declared.receiving.Kind.{Kind}
use Rattle.rpki_ca.specs.declared.receiving.Kind.TheVariants as kinds
use Rattle.rpki_ca.specs.declared.receiving.Received.{Received}
use Rattle.rpki_ca.specs.declared.receiving.Received.TheVariants as received
use Rattle.rpki_ca.specs.declared.refusals.Refusal.{Refusal}
use Rattle.rpki_ca.specs.declared.refusals.Refusal.TheVariants as refusals
use Rattle.rpki_ca.specs.Acceptance.{ReadsAs, HasNoForm, HoldsNoCertificate, HoldsNoRequest, of_publication, of_provisioning, refusal_of}
use Rattle.rpki_ca.specs.Creation.{RefusesInput}

-- the three reasons, each with its refusal
abbrev pub Reason : Kind → List ℕ → Refusal → Type 0
Reason kind octets e =
    ((e ≡ refusals.XmlError) × HasNoForm kind octets)
    ⊎ (((e ≡ refusals.CertSyntax) × HoldsNoCertificate kind octets)
    ⊎ ((e ≡ refusals.InvalidCsrSyntax) × HoldsNoRequest kind octets))

pub reason : (kind : Kind) (octets : List ℕ) (e : Refusal) → RefusesInput kind octets e → Reason kind octets e
reason kind octets refusals.XmlError r = inl (refl, r)
reason kind octets refusals.CertSyntax r = inr (inl (refl, r))
reason kind octets refusals.InvalidCsrSyntax r = inr (inr (refl, r))
reason kind octets refusals.Usage r = absurd r
reason kind octets refusals.Hex r = absurd r
reason kind octets refusals.CmsDecode r = absurd r
reason kind octets refusals.InvalidTaCertEncoding r = absurd r
reason kind octets refusals.InvalidTaCert r = absurd r
reason kind octets (refusals.Validation n) r = absurd r
reason kind octets refusals.KeyNotFound r = absurd r
reason kind octets refusals.IncompatibleKey r = absurd r
reason kind octets refusals.KeyReused r = absurd r
reason kind octets refusals.Signer r = absurd r
reason kind octets refusals.Moment r = absurd r
reason kind octets refusals.TooLong r = absurd r
reason kind octets refusals.ReadFault r = absurd r
reason kind octets refusals.OutOfMemory r = absurd r

-- octets that are a message have none
pub no_reason : (kind : Kind) (octets : List ℕ) (m : Received) (e : Refusal) → ReadsAs kind octets m → Reason kind octets e → ⊥
no_reason kinds.Publication octets (received.Publication m) e r (inl p) = p.1 m r
no_reason kinds.Publication octets (received.Publication m) e r (inr (inl p)) = p.1
no_reason kinds.Publication octets (received.Publication m) e r (inr (inr p)) = p.1
no_reason kinds.Publication octets (received.Provisioning m) e r p = r
no_reason kinds.Provisioning octets (received.Publication m) e r p = r
no_reason kinds.Provisioning octets (received.Provisioning m) e r (inl p) = excludes.message octets m r p.1
no_reason kinds.Provisioning octets (received.Provisioning m) e r (inr (inl p)) = excludes.certificate octets m r p.1
no_reason kinds.Provisioning octets (received.Provisioning m) e r (inr (inr p)) = excludes.request octets m r p.1

no_form_certificate : (kind : Kind) (octets : List ℕ) → HasNoForm kind octets → HoldsNoCertificate kind octets → ⊥
no_form_certificate kinds.Publication octets n h = h
no_form_certificate kinds.Provisioning octets n h = n h.shape h.has

no_form_request : (kind : Kind) (octets : List ℕ) → HasNoForm kind octets → HoldsNoRequest kind octets → ⊥
no_form_request kinds.Publication octets n h = h
no_form_request kinds.Provisioning octets n h = n h.shape h.has

no_both : (kind : Kind) (octets : List ℕ) → HoldsNoCertificate kind octets → HoldsNoRequest kind octets → ⊥
no_both kinds.Publication octets c h = h
no_both kinds.Provisioning octets c h = excludes.faults octets c h

-- octets that are no message have one reason
pub one_reason : (kind : Kind) (octets : List ℕ) (d e : Refusal) → Reason kind octets d → Reason kind octets e → d ≡ e
one_reason kind octets d e (inl p) (inl q) = p.0 ∙ sym q.0
one_reason kind octets d e (inl p) (inr (inl q)) = absurd (no_form_certificate kind octets p.1 q.1)
one_reason kind octets d e (inl p) (inr (inr q)) = absurd (no_form_request kind octets p.1 q.1)
one_reason kind octets d e (inr (inl p)) (inl q) = absurd (no_form_certificate kind octets q.1 p.1)
one_reason kind octets d e (inr (inl p)) (inr (inl q)) = p.0 ∙ sym q.0
one_reason kind octets d e (inr (inl p)) (inr (inr q)) = absurd (no_both kind octets p.1 q.1)
one_reason kind octets d e (inr (inr p)) (inl q) = absurd (no_form_request kind octets q.1 p.1)
one_reason kind octets d e (inr (inr p)) (inr (inl q)) = absurd (no_both kind octets q.1 p.1)
one_reason kind octets d e (inr (inr p)) (inr (inr q)) = p.0 ∙ sym q.0

-- ---- the errors of the two protocols

pub publication_refused : (octets : List ℕ) (e : PublicationError) → publication_answers.RefusesMessage octets e → refusal_of (of_publication e) ≢ refusals.OutOfMemory → RefusesInput kinds.Publication octets (refusal_of (of_publication e))
publication_refused octets (publication.XmlError xml.Malformed) r other = r
publication_refused octets (publication.XmlError xml.OutOfMemory) r other = absurd r
publication_refused octets publication.OutOfMemory r other = absurd (other refl)
publication_refused octets publication.InvalidVersion r other = absurd r
publication_refused octets (publication.InvalidErrorCode t) r other = absurd r
publication_refused octets publication.CmsDecode r other = absurd r
publication_refused octets (publication.Validation e) r other = absurd r
publication_refused octets publication.NotQuery r other = absurd r
publication_refused octets publication.NotReply r other = absurd r
publication_refused octets publication.Read r other = absurd r
publication_refused octets publication.Write r other = absurd r
publication_refused octets publication.TooLong r other = absurd r

pub provisioning_refused : (octets : List ℕ) (e : ProvisioningError) → provisioning_answers.RefusesMessage octets e → refusal_of (of_provisioning e) ≢ refusals.OutOfMemory → RefusesInput kinds.Provisioning octets (refusal_of (of_provisioning e))
provisioning_refused octets (provisioning.XmlError e) r other = r.1
provisioning_refused octets provisioning.CertSyntax r other = r
provisioning_refused octets provisioning.InvalidCsrSyntax r other = r
provisioning_refused octets provisioning.OutOfMemory r other = absurd (other refl)
provisioning_refused octets provisioning.InvalidVersion r other = absurd r
provisioning_refused octets (provisioning.InvalidPayloadType e) r other = absurd r
provisioning_refused octets provisioning.CmsDecode r other = absurd r
provisioning_refused octets (provisioning.Validation e) r other = absurd r
provisioning_refused octets (provisioning.Limit set limit) r other = absurd r
provisioning_refused octets provisioning.Read r other = absurd r
provisioning_refused octets provisioning.Write r other = absurd r
provisioning_refused octets provisioning.TooLong r other = absurd r
