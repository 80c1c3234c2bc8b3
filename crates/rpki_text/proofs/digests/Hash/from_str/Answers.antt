use Rattle.std.proofs.Common.{sym, ◌∙◌, refl}
use Rattle.hex.proofs.HexLemmas.{IsOk-decode_sized}
use Rattle.rpki_text.proofs.digests.Hash.from_str.Goals as goal

pub returns-in-Ok-clause-found : goal.returns-in-Ok-clause-found
returns-in-Ok-clause-found c =
    let digits = IsOk-decode_sized c.args.text.now 32 in
    (λ h. digits.0 (rw (sym c.from_hex.ensures ∙ c.in-Ok.is) h), λ h. refl)

pub returns-in-Err-clause-found : goal.returns-in-Err-clause-found
returns-in-Err-clause-found c =
    let digits = IsOk-decode_sized c.args.text.now 32 in
    (λ h. digits.0 (rw (sym c.from_hex.ensures ∙ c.in-Err.is) h), λ h. rw (sym c.from_hex.ensures ∙ c.in-Err.is) at (digits.1 h))
