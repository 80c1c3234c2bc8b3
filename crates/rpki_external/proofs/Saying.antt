-- What is answered to an input, and why nothing is.
use Rattle.std.proofs.Common.{◌≡◌, ◌≢◌, inr, ℕ, ℤ, Result, Ok, Err, List, [], ◌∷◌, ◌++◌, refl, sym, ap, subst, ◌∙◌}
use Rattle.hex.specs.Hex.{encode_lower}
use Rattle.rpki_base.specs.PublicKey.{KeyFields}
use Rattle.rpki_base.specs.RpkiSignatureAlgorithm.{spelled_x509}
use Rattle.rpki_base.specs.SignedData.{CanSpellSigned, spelled_data}
use Rattle.rpki_base.specs.Validity.{ValidityFields}
use Rattle.rpki_idcert.specs.IdCert.{CertificateFields}
use Rattle.rpki_sigmsg.specs.Making.{UnsignedFields}
use Rattle.rpki_sigmsg.specs.Message.{MessageFields}
use Rattle.rpki_sigmsg.specs.Spelling.{CanSpellMessage, rewritten}
use Rattle.rpki_signer.specs.Limits.{IsShort}
use Rattle.rpki_der.specs.declared.error.DecodeError.{DecodeError}
use Rattle.rpki_der.specs.declared.error.DecodeError.TheVariants as decode
use Rattle.rpki_ca.specs.Acceptance.{HoldsNoSigned, ReadsAs, accepted_text}
use Rattle.rpki_ca.specs.declared.refusals.Refusal.TheVariants as refusals
use Rattle.rpki_ca.specs.declared.receiving.Kind.{Kind}
use Rattle.rpki_ca.specs.declared.receiving.Received.{Received}
use Rattle.rpki_external.specs.Making.{AreShort, CanPrepare, CanPrepareAnchor, CanPrepareRequest, FinishFails, PrepareFails, finished, finished_anchor, finished_request}
use Rattle.rpki_external.specs.Running.{IsFinishAnchorAnswer, IsFinishAnswer, IsFinishRequestAnswer, IsInspectAnswer, IsPrepareAnswer, IsQuestionsAnswer, lines_to_sign, refusal_of_no_message, refusal_of_prepare}
use Rattle.rpki_external.specs.declared.keys_refusal.KeysRefusal.TheVariants as keys
use Rattle.rpki_external.specs.declared.preparing.Plan.{Plan}
use Rattle.rpki_external.specs.declared.preparing.PrepareError.{PrepareError}
use Rattle.rpki_external.specs.declared.preparing.Signatures.{Signatures}
use Rattle.rpki_external.specs.declared.preparing_requests.RequestPlan.{RequestPlan}

-- ---- messages that are prepared and finished

module _ (kind : Kind) (input : List ℕ) (p : Plan) (m : Received) (text : List ℕ) (reads : ReadsAs kind input m) (is : text ≡ accepted_text m) where
  pub prepared_so : (output : List ℕ) → CanPrepare text p → output ≡ lines_to_sign text p → IsPrepareAnswer kind input p (Ok output)
  prepared_so output can written = record {
    message = m;
    reads = reads;
    answered = subst (λ (t : List ℕ). CanPrepare t p × (output ≡ lines_to_sign t p)) is (can, written);
  }

  pub prepare_failed : (e : PrepareError) → PrepareFails text p e → IsPrepareAnswer kind input p (Err (refusal_of_prepare e))
  prepare_failed e fails = inr (record {
    message = m;
    reads = reads;
    error = e;
    fails_so = subst (λ (t : List ℕ). PrepareFails t p e) is fails;
    is = refl;
  })

  pub finished_so : (s : Signatures) (signed : MessageFields) (octets output : List ℕ) → CanPrepare text p → AreShort s → signed ≡ finished text p s → CanSpellMessage signed → octets ≡ rewritten signed
      → output ≡ encode_lower octets ++ 10 ∷ [] → IsFinishAnswer kind input p s (Ok output)
  finished_so s signed octets output can short made fits are written = record {
    message = m;
    reads = reads;
    answered = subst (λ (t : List ℕ). CanPrepare t p × AreShort s × CanSpellMessage (finished t p s) × (output ≡ encode_lower (rewritten (finished t p s)) ++ 10 ∷ [])) is
        (can, short, subst (λ (x : MessageFields). CanSpellMessage x) made fits, written ∙ same);
  }
    where
      same : encode_lower octets ++ 10 ∷ [] ≡ encode_lower (rewritten (finished text p s)) ++ 10 ∷ []
      same = subst (λ (x : MessageFields). encode_lower octets ++ 10 ∷ [] ≡ encode_lower (rewritten x) ++ 10 ∷ []) made (subst (λ (o : List ℕ). encode_lower octets ++ 10 ∷ [] ≡ encode_lower o ++ 10 ∷ []) are refl)

  pub finish_failed : (s : Signatures) (e : PrepareError) → FinishFails text p s e → IsFinishAnswer kind input p s (Err (refusal_of_prepare e))
  finish_failed s e fails = inr (record {
    message = m;
    reads = reads;
    error = e;
    fails_so = subst (λ (t : List ℕ). FinishFails t p s e) is fails;
    is = refl;
  })

-- ---- an anchor and a request that are finished

pub anchor_line : (validity : ValidityFields) (key : KeyFields) (signature : List ℕ) (c : CertificateFields) (octets output : List ℕ) → c ≡ finished_anchor key validity signature
    → CanPrepareAnchor key → IsShort signature → CanSpellSigned spelled_x509 c.signed → octets ≡ spelled_data spelled_x509 c.signed → output ≡ encode_lower octets ++ 10 ∷ []
    → IsFinishAnchorAnswer validity key signature (Ok output)
anchor_line validity key signature c octets output is can short fits are written =
    let same : octets ≡ spelled_data spelled_x509 (finished_anchor key validity signature).signed = are ∙ ap (λ (x : CertificateFields). spelled_data spelled_x509 x.signed) is in
    (can, short, subst (λ (x : CertificateFields). CanSpellSigned spelled_x509 x.signed) is fits, written ∙ ap (λ (o : List ℕ). encode_lower o ++ 10 ∷ []) same)

pub request_line : (plan : RequestPlan) (signature octets output : List ℕ) → octets ≡ spelled_data spelled_x509 (finished_request plan signature).signed
    → CanPrepareRequest plan → IsShort signature → CanSpellSigned spelled_x509 (finished_request plan signature).signed → output ≡ encode_lower octets ++ 10 ∷ []
    → IsFinishRequestAnswer plan signature (Ok output)
request_line plan signature octets output are can short fits written = (can, short, fits, written ∙ ap (λ (o : List ℕ). encode_lower o ++ 10 ∷ []) are)

-- ---- octets that begin with no signed message

pub none_asked : (octets : List ℕ) (list : List KeyFields) (e : DecodeError) → (e ≡ decode.Malformed → HoldsNoSigned octets) → refusal_of_no_message e ≢ keys.General refusals.OutOfMemory
    → IsQuestionsAnswer octets list (Err (refusal_of_no_message e))
none_asked octets list decode.Malformed none other = none refl
none_asked octets list decode.OutOfMemory none other = absurd (other refl)

pub none_inspected : (octets : List ℕ) (e : DecodeError) → (e ≡ decode.Malformed → HoldsNoSigned octets) → refusal_of_no_message e ≢ keys.General refusals.OutOfMemory
    → IsInspectAnswer octets (Err (refusal_of_no_message e))
none_inspected octets decode.Malformed none other = none refl
none_inspected octets decode.OutOfMemory none other = absurd (other refl)
