use Rattle.std.specs.Prelude.{Some, string_bytes}
use Rattle.std.proofs.Common.{◌≡◌, sym, ◌∙◌, arith}
use Rattle.std.proofs.lemmas.Result.{IfOk-weaker}
use Rattle.base64.specs.GeneralPurpose.{IsBytes}
use Rattle.rpki_text.specs.Json.{string_of_json}
use Rattle.rpki_text.specs.Base64.{octets_of_json}
use Rattle.rpki_text.proofs.Base64Laws.{decoded_of-encode, octets_of_json-is}
use Rattle.rpki_text.proofs.base64_text.write_octets.Goals as goal

pub returns-clause-again : goal.returns-clause-again
returns-clause-again c =
    let fits : IsBytes c.args.octets.now = λ i. let f = c.type_inv.octets i in omega arith in
    IfOk-weaker c.write_string.result (λ s. string_of_json (string_bytes s) ≡ Some c.as_str.result.now) (λ s. octets_of_json (string_bytes s) ≡ Some c.args.octets.now)
    (λ s e. octets_of_json-is _ _ _ _ e (sym (c.as_str.ensures.value ∙ c.in_ok-spelled.ensures.text)) (decoded_of-encode c.args.octets.now fits)) c.write_string.ensures.again
