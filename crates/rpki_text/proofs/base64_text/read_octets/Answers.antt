use Rattle.std.specs.Prelude.{Some, None}
use Rattle.std.proofs.Common.{◌≡◌}
use Rattle.std.proofs.lemmas.Result.{IfOk-weaker}
use Rattle.base64.specs.Engines.{standard}
use Rattle.base64.specs.GeneralPurpose.{decoded_of}
use Rattle.rpki_text.specs.Base64.{octets_of_json}
use Rattle.rpki_text.proofs.Base64Laws.{octets_of_json-is}
use Rattle.rpki_text.proofs.base64_text.read_octets.Goals as goal

pub returns-clause-octets : goal.returns-clause-octets
returns-clause-octets c =
    IfOk-weaker c.octets_of.result (λ b. decoded_of standard c.as_str.result.now ≡ Some b) (λ b. octets_of_json c.args.text.now ≡ Some b)
    (λ b e. octets_of_json-is _ _ _ _ c.in_ok-spelled.ensures.ok c.as_str.ensures.value e) c.octets_of.ensures.octets

pub returns-clause-malformed : goal.returns-clause-malformed
returns-clause-malformed c = λ e. octets_of_json-is _ _ _ None c.in_ok-spelled.ensures.ok c.as_str.ensures.value (c.octets_of.ensures.malformed e)
