use Rattle.std.proofs.Common.{ℕ, List, ap, ◌∙◌, arith}
use Rattle.base64.specs.GeneralPurpose.{IsBytes}
use Rattle.rpki_text.specs.KeyIdentifier.{key_identifier_of_text}
use Rattle.rpki_text.proofs.KeyIdentifierLaws.{key_identifier-plain}
use Rattle.rpki_text.proofs.key_identifiers.key_identifier_text.Goals as goal

pub returns-clause-again : goal.returns-clause-again
returns-clause-again c =
    let fits : IsBytes c.args.octets.now = λ i. let f = c.fits-octets i in omega arith in
    ap (λ (l : List ℕ). key_identifier_of_text l) c.in_ok-encode.ensures.text ∙ key_identifier-plain c.args.octets.now fits c.told-octets
