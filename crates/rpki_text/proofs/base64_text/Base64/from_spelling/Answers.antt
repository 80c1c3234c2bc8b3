use Rattle.std.proofs.Common.{List, ℕ, Some, refl, sym, ap, subst, ◌∙◌}
use Rattle.base64.specs.Engines.{standard}
use Rattle.base64.specs.GeneralPurpose.{encode_of, decoded_of, IsBytes}
use Rattle.base64.proofs.Streams.{decoded_of-ok}
use Rattle.rpki_text.proofs.Base64Laws.{decoded_of-err, IsHeld-encode, held_content-encode}
use Rattle.rpki_text.proofs.base64_text.Base64.from_spelling.Goals as goal

pub invariant_of-result : goal.invariant_of-result
invariant_of-result c =
    IsHeld-encode c.in-Ok.content.items c.in_ok-from_str.field-0 c.in-Ok.ensures.bytes (c.in_ok-from_str.ensures ∙ sym c.as_bytes.ensures.value ∙ c.in-Ok.ensures.exact (refl, refl))

pub returns-in-Err-DecodeError-clause-malformed : goal.returns-in-Err-DecodeError-clause-malformed
returns-in-Err-DecodeError-clause-malformed c = λ _.
    ap (λ (l : List ℕ). decoded_of standard l) (sym c.as_bytes.ensures.value) ∙ decoded_of-err c.as_bytes.result.now c.in-Err-DecodeError.field-0-0 (rw c.in-Err-DecodeError.field-0-is at c.in-Err-DecodeError.ensures.err)

pub returns-clause-content : goal.returns-clause-content
returns-clause-content c =
    ap (λ (l : List ℕ). decoded_of standard l) (sym c.as_bytes.ensures.value) ∙ decoded_of-ok standard c.as_bytes.result.now c.in-Ok.content.items c.in-Ok.ensures.ok
    ∙ ap Some (sym (held_content-encode c.in-Ok.content.items c.in_ok-from_str.field-0 c.in-Ok.ensures.bytes (c.in_ok-from_str.ensures ∙ sym c.as_bytes.ensures.value ∙ c.in-Ok.ensures.exact (refl, refl))))

pub returns-clause-bytes : goal.returns-clause-bytes
returns-clause-bytes c =
    subst IsBytes (sym (held_content-encode c.in-Ok.content.items c.in_ok-from_str.field-0 c.in-Ok.ensures.bytes (c.in_ok-from_str.ensures ∙ sym c.as_bytes.ensures.value ∙ c.in-Ok.ensures.exact (refl, refl)))) c.in-Ok.ensures.bytes

pub returns-clause-spelled : goal.returns-clause-spelled
returns-clause-spelled c =
    sym c.as_bytes.ensures.value ∙ c.in-Ok.ensures.exact (refl, refl)
    ∙ ap (λ (l : List ℕ). encode_of standard l) (sym (held_content-encode c.in-Ok.content.items c.in_ok-from_str.field-0 c.in-Ok.ensures.bytes (c.in_ok-from_str.ensures ∙ sym c.as_bytes.ensures.value ∙ c.in-Ok.ensures.exact (refl, refl))))
