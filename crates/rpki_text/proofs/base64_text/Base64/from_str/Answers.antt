use Rattle.std.proofs.Common.{◌≡◌, ℕ, List, Some, None, Result, Ok, Err, true, filter, refl, sym, ap, ◌∙◌}
use Rattle.std.specs.Prelude.{IfOk}
use Rattle.std.specs.List.{list_all}
use Rattle.std.proofs.lemmas.Result.{IfOk-weaker}
use Rattle.base64.specs.Engines.{standard}
use Rattle.base64.specs.GeneralPurpose.{decoded_of, encode_of, IsBytes}
use Rattle.base64.proofs.Streams.{decoded_of-ok}
use Rattle.rpki_text.specs.Base64.{is_not_space, IsBase64Text, base64_content}
use Rattle.rpki_text.proofs.Base64Laws.{decoded_of-err, filter_none, no_base64, is_spelled}
use Rattle.rpki_text.proofs.base64_text.Base64.from_str.Goals as goal

-- a text without white space stands as it is
as_it_stands : (text octets : List ℕ) → octets ≡ text → true ≡ list_all is_not_space octets → filter is_not_space text ≡ text
as_it_stands text octets e h = filter_none text (ap (λ (l : List ℕ). list_all is_not_space l) (sym e) ∙ sym h)

both_hold : {E : Type 0} {text : List ℕ} (r : Result (List ℕ) E) → filter is_not_space text ≡ text → IfOk r IsBytes → IfOk r (λ b. text ≡ encode_of standard b) → IfOk r (λ b. IsBase64Text text b)
both_hold (Ok b) e f g = (f, e ∙ g)
both_hold (Err e) h f g = tt

malformed : (text spelled : List ℕ) → spelled ≡ filter is_not_space text → decoded_of standard spelled ≡ None → base64_content text ≡ None
malformed text spelled e h = ap (λ (l : List ℕ). decoded_of standard l) (sym e) ∙ h

pub returns-in-Err-DecodeError-clause-malformed : goal.returns-in-Err-DecodeError-clause-malformed
returns-in-Err-DecodeError-clause-malformed c = λ _.
    malformed c.args.text.now c.deref.result.now
    (c.deref.ensures.value ∙ c.in_ok-spelling.ensures ∙ ap (λ (l : List ℕ). filter is_not_space l) c.as_bytes-2.ensures.value)
    (decoded_of-err c.deref.result.now c.in-Err-DecodeError.field-0-0 (rw c.in-Err-DecodeError.field-0-is at c.in-Err-DecodeError.ensures.err))

pub returns-in-Err-DecodeError-clause-none : goal.returns-in-Err-DecodeError-clause-none
returns-in-Err-DecodeError-clause-none c = λ _. no_base64 c.args.text.now
    (malformed c.args.text.now c.deref.result.now
    (c.deref.ensures.value ∙ c.in_ok-spelling.ensures ∙ ap (λ (l : List ℕ). filter is_not_space l) c.as_bytes-2.ensures.value)
    (decoded_of-err c.deref.result.now c.in-Err-DecodeError.field-0-0 (rw c.in-Err-DecodeError.field-0-is at c.in-Err-DecodeError.ensures.err)))

pub returns-clause-content : goal.returns-clause-content
returns-clause-content c =
    let spelled : c.deref.result.now ≡ filter is_not_space c.args.text.now =
    c.deref.ensures.value ∙ c.in_ok-spelling.ensures ∙ ap (λ (l : List ℕ). filter is_not_space l) c.as_bytes-2.ensures.value in
    ap (λ (l : List ℕ). decoded_of standard l) (sym spelled)
    ∙ decoded_of-ok standard c.deref.result.now c.in-Ok.content.items c.in-Ok.ensures.ok
    ∙ ap Some (sym (c.in_ok-from_content.ensures ∙ c.deref-2.ensures.value))

pub returns-clause-spelled : goal.returns-clause-spelled
returns-clause-spelled c =
    let spelled = c.deref.ensures.value ∙ c.in_ok-spelling.ensures ∙ ap (λ (l : List ℕ). filter is_not_space l) c.as_bytes-2.ensures.value in
    let held = c.in_ok-from_content.ensures ∙ c.deref-2.ensures.value in
    is_spelled c.args.text.now c.deref.result.now c.in-Ok.content.items _ held spelled c.in-Ok.ensures.bytes (c.in-Ok.ensures.exact (refl, refl))

pub returns-then-is_without_space-clause-content : goal.returns-then-is_without_space-clause-content
returns-then-is_without_space-clause-content c =
    IfOk-weaker c.from_spelling.result _ _ (λ b h. ap (λ (l : List ℕ). decoded_of standard l) (as_it_stands c.args.text.now _ c.as_bytes.ensures.value c.if-is_without_space.ensures) ∙ h) c.from_spelling.ensures.content

pub returns-then-is_without_space-clause-spelled : goal.returns-then-is_without_space-clause-spelled
returns-then-is_without_space-clause-spelled c =
    both_hold c.from_spelling.result (as_it_stands c.args.text.now _ c.as_bytes.ensures.value c.if-is_without_space.ensures) c.from_spelling.ensures.bytes c.from_spelling.ensures.spelled

pub returns-then-is_without_space-clause-malformed : goal.returns-then-is_without_space-clause-malformed
returns-then-is_without_space-clause-malformed c = λ e.
    ap (λ (l : List ℕ). decoded_of standard l) (as_it_stands c.args.text.now _ c.as_bytes.ensures.value c.if-is_without_space.ensures) ∙ c.from_spelling.ensures.malformed e

pub returns-then-is_without_space-clause-none : goal.returns-then-is_without_space-clause-none
returns-then-is_without_space-clause-none c = λ e. no_base64 c.args.text.now
    (ap (λ (l : List ℕ). decoded_of standard l) (as_it_stands c.args.text.now _ c.as_bytes.ensures.value c.if-is_without_space.ensures) ∙ c.from_spelling.ensures.malformed e)
