use Rattle.std.proofs.Common.{◌∙◌, arith}
use Rattle.base64.specs.GeneralPurpose.{IsBytes}
use Rattle.rpki_text.proofs.Base64Laws.{IsHeld-encode, held_content-encode}
use Rattle.rpki_text.proofs.base64_text.Base64.from_content.Goals as goal

pub invariant_of-result : goal.invariant_of-result
invariant_of-result c =
    let fits : IsBytes c.args.content.now = λ i. let f = c.type_inv.content i in omega arith in
    IsHeld-encode c.args.content.now c.in_ok-from_str.field-0 fits (c.in_ok-from_str.ensures ∙ c.as_str.ensures.value ∙ c.in_ok-text.ensures.text)

pub returns : goal.returns
returns c =
    let fits : IsBytes c.args.content.now = λ i. let f = c.type_inv.content i in omega arith in
    held_content-encode c.args.content.now c.in_ok-from_str.field-0 fits (c.in_ok-from_str.ensures ∙ c.as_str.ensures.value ∙ c.in_ok-text.ensures.text)
