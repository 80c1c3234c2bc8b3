-- Answers to lines, one behind the other.
use Rattle.std.proofs.Common.{◌≡◌, ◌≢◌, ◌<◌, ◌≤◌, ◌^◌, ℕ, ℤ, Err, List, [], ◌∷◌, length, get_or, take, inl, inr, refl, sym, ap, subst, ◌∙◌}
use Rattle.hex.specs.Hex.{encode_lower}
use Rattle.rpki_base.specs.Scheme.{Relation}
use Rattle.rpki_signer.specs.Limits.{Keeps}
use Rattle.rpki_signer.specs.Signer.{SignerState}
use Rattle.rpki_sigmsg.specs.declared.create_error.CreateError.{CreateError}
use Rattle.rpki_sigmsg.specs.Spelling.{rewritten, CanSpellMessage}
use Rattle.rpki_updown.specs.declared.error.Error.{Error}
use Rattle.rpki_provisioning.specs.Cms.{CmsFields}
use Rattle.rpki_provisioning.specs.Message.{text_of}
use Rattle.rpki_ca.specs.declared.receiving.Kind.TheVariants as kinds
use Rattle.rpki_ca.specs.declared.receiving.Received.TheVariants as received
use Rattle.rpki_ca.specs.declared.receiving.ReceiveError.{ReceiveError}
use Rattle.rpki_ca.specs.declared.receiving.ReceiveError.TheVariants as receipt
use Rattle.rpki_ca.specs.declared.refusals.Refusal.{Refusal}
use Rattle.rpki_ca.specs.declared.refusals.Refusal.TheVariants as refusals
use Rattle.rpki_ca.specs.Acceptance.{of_provisioning, refusal_of}
use Rattle.rpki_ca.specs.Answer.{IsReceiveAnswer}
use Rattle.rpki_ca.specs.Creation.{refusal_of_create}
use Rattle.rpki_ca.specs.Refusal.{name_of}
use Rattle.rpki_ca.specs.Seen.{SignerSeen, seen_signer}
use Rattle.rpki_ca.specs.Steps.{AreSteps}
use Rattle.rpki_ca.proofs.Accepting.{refusal}
use Rattle.rpki_ca.proofs.Creating.{first_told}
use Rattle.rpki_ca.proofs.Sending.{not_memory, signing_cause}
use Rattle.rpki_ca.proofs.Serving.{stopped_at}
use Rattle.rpki_ca.proofs.Stepping.{all_steps, first_steps}
use Rattle.rpki_upserver.specs.Answering.{IsRequestAnswered, IsUnsent, ParentAndIssuer, RefusesOctets, error_of, reply}
use Rattle.rpki_upserver.specs.Serving.{AreAllAnswered, AreFirstAnswered, FailsLine, IsLeft, IsLineAnswered, Service, StopsAnswering, service_of}

-- ---- one line

-- what is signed is written in hexadecimal
pub replied_so : {I : Type 0} (scheme : Relation) (when : ℤ) (signer : SignerSeen I) (before : ParentAndIssuer) (octets : List ℕ) (c : CmsFields) (after : ParentAndIssuer) → IsRequestAnswered scheme octets when before after signer c → CanSpellMessage c.signed
    → Keeps signer.before signer.after → IsLineAnswered scheme when signer.id (service_of before signer.before) octets (encode_lower (rewritten c.signed)) (service_of after signer.after)
replied_so scheme when signer before octets c after answered spelled keeps = inl (record {
  payload = answered.payload;
  decided = answered.decided;
  fits = answered.signed.signed.fits;
  created = record {
    octets = rewritten c.signed;
    created = record { signed = c.signed; created = answered.signed.signed.created; are = refl; receivable = answered.signed.signed.receivable spelled };
    written = refl;
  };
  keeps = keeps;
})

same_reason : (e : ReceiveError) → of_provisioning (error_of e) ≡ e
same_reason receipt.CmsDecode = refl
same_reason receipt.XmlError = refl
same_reason receipt.CertSyntax = refl
same_reason receipt.InvalidCsrSyntax = refl
same_reason (receipt.Validation failed) = refl
same_reason receipt.OutOfMemory = refl

not_told : (e : ReceiveError) → e ≢ receipt.OutOfMemory → refusal_of e ≢ refusals.OutOfMemory
not_told receipt.CmsDecode other = λ is. cc
not_told receipt.XmlError other = λ is. cc
not_told receipt.CertSyntax other = λ is. cc
not_told receipt.InvalidCsrSyntax other = λ is. cc
not_told (receipt.Validation failed) other = λ is. cc
not_told receipt.OutOfMemory other = absurd (other refl)

-- a refusal is written as `receive` writes it
pub turned_so : {I : Type 0} (scheme : Relation) (when : ℤ) (id : I) (before : ParentAndIssuer) (signer next : SignerState I) (octets : List ℕ) (e : Error) (after : ParentAndIssuer) → RefusesOctets scheme octets before.parent.child_key when e → after ≡ before → next ≡ signer
    → IsLineAnswered scheme when id (service_of before signer) octets (name_of (refusal_of (of_provisioning e))) (service_of after next)
turned_so {I = I} scheme when id before signer next octets e after r behind idle =
    let same : refusal_of r.reason ≡ refusal_of (of_provisioning e) = ap refusal_of (sym (ap of_provisioning r.is ∙ same_reason r.reason)) in
    inr (record {
      refusal = refusal_of (of_provisioning e);
      answer = subst (λ (x : Refusal). IsReceiveAnswer scheme kinds.Provisioning octets (before.parent.child_key ∷ []) when (Err x)) same
          (refusal scheme kinds.Provisioning octets (before.parent.child_key ∷ []) when r.reason r.refuses (not_told r.reason r.given));
      written = refl;
      behind = ap (λ (p : ParentAndIssuer). service_of p next) behind ∙ ap (λ (s : SignerState I). service_of before s) idle;
    })

-- a reply isn't signed
pub cant_send : {I E : Type 0} (scheme : Relation) (when : ℤ) (signer : SignerSeen I) (before : ParentAndIssuer) (octets : List ℕ) (after : ParentAndIssuer) (e : CreateError E) → IsUnsent scheme octets when before after signer e
    → refusal_of_create e ≢ refusals.OutOfMemory → FailsLine scheme when signer before octets after (refusal_of_create e)
cant_send scheme when signer before octets after e u other =
    let f = u.cause (not_memory e other) in
    record {
      payload = u.payload;
      decided = u.decided;
      cause = signing_cause scheme when signer (received.Provisioning (reply before.parent u.payload)) e f other;
      too_long = λ window long. ap refusal_of_create (f.too_long window long);
      first = λ short. first_told scheme (text_of (reply before.parent u.payload)) when signer e short f.first_refusal;
    }

-- ---- the lines of a run

module _ {I : Type 0} (scheme : Relation) (when : ℤ) (id : I) (first : SignerState I) (start : ParentAndIssuer) (messages : List (List ℕ)) (i : ℕ) (texts : List (List ℕ)) (last : Service I) where
  abbrev AreSoFar : Type 0
  AreSoFar = AreSteps (IsLineAnswered scheme when id) (service_of start first) (take i messages) texts last

  pub all_answered : length messages ≤ i → AreSoFar → AreAllAnswered scheme when (seen_signer id first last.signer) start last.parties.issuer messages texts []
  all_answered le are = record {
    steps = record { last = last; answered = all_steps (IsLineAnswered scheme when id) (service_of start first) messages i texts last le are; written = refl };
    issuer_is = refl;
    signer_is = refl;
  }

  pub first_answered : i ≤ length messages → AreSoFar → AreFirstAnswered scheme when (seen_signer id first last.signer) start last.parties.issuer messages texts
  first_answered le are = record {
    steps = record { last = last; answered = first_steps (IsLineAnswered scheme when id) (service_of start first) messages i texts last le are };
    issuer_is = refl;
    signer_is = refl;
  }

  -- the next line isn't answered
  pub stops_answering : (octets : List ℕ) (next : ParentAndIssuer) (after : SignerState I) (r : Refusal) → i < length messages → octets ≡ get_or messages i octets → AreSoFar → Keeps last.signer after → IsLeft scheme when last.parties octets next
      → (r ≢ refusals.OutOfMemory → FailsLine scheme when (seen_signer id last.signer after) last.parties octets next r) → StopsAnswering scheme when (seen_signer id first after) start next.issuer messages texts r
  stops_answering octets next after r lt at are keeps left fails =
      let behind = stopped_at (IsLineAnswered scheme when id) (service_of start first) messages i texts last octets lt at are in
      record {
        steps = record { last = last; answered = behind.0 };
        keeps = keeps;
        left = record { octets = octets; stands = behind.1; parent = next.parent; left = left };
        fails = λ other. record { octets = octets; stands = behind.1; parent = next.parent; fails = fails other };
      }
