use Rattle.std.proofs.lemmas.Str.{IsUtf8-from_ascii}
use Rattle.hex.specs.Hex.{upper_digits}
use Rattle.hex.proofs.HexLemmas.{IsAscii-encode_with}
use Rattle.rpki_base.proofs.Upper.{upper_is_ascii}
use Rattle.rpki_base.proofs.key_identifier.KeyIdentifierDisplay.fmt.Goals as goal

pub unreachable-requires : goal.unreachable-requires
unreachable-requires g c =
    c.in_default.ensures.cases.0 (IsUtf8-from_ascii _ (rw c.digits-text.ensures (IsAscii-encode_with upper_digits _ upper_is_ascii)))
