use Rattle.std.proofs.Common.{ℕ, List, Some, sym, ap, ◌∙◌}
use Rattle.base64.specs.Engines.{standard}
use Rattle.base64.specs.GeneralPurpose.{decoded_of}
use Rattle.base64.proofs.Streams.{decoded_of-ok}
use Rattle.rpki_text.proofs.Base64Laws.{decoded_of-err}
use Rattle.rpki_text.proofs.base64_text.octets_of.Goals as goal

pub returns-in_ok-from_vec-in-Ok-clause-octets : goal.returns-in_ok-from_vec-in-Ok-clause-octets
returns-in_ok-from_vec-in-Ok-clause-octets c =
    ap (λ (l : List ℕ). decoded_of standard l) (sym c.as_bytes.ensures.value)
    ∙ decoded_of-ok standard _ _ c.in-Ok.ensures.ok ∙ ap Some (sym c.in_ok-from_vec-in-Ok.ensures.ok)

pub returns-in-Err-DecodeError-clause-malformed : goal.returns-in-Err-DecodeError-clause-malformed
returns-in-Err-DecodeError-clause-malformed c = λ _.
    ap (λ (l : List ℕ). decoded_of standard l) (sym c.as_bytes.ensures.value)
    ∙ decoded_of-err _ c.in-Err-DecodeError.field-0-0 (rw c.in-Err-DecodeError.field-0-is at c.in-Err-DecodeError.ensures.err)
