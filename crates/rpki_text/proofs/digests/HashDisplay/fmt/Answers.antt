use Rattle.std.proofs.lemmas.Str.{IsUtf8-from_ascii}
use Rattle.hex.specs.Hex.{lower_digits}
use Rattle.hex.proofs.HexLemmas.{IsAscii-encode_with}
use Rattle.rpki_text.proofs.HashLaws.{lower_is_ascii}
use Rattle.rpki_text.proofs.digests.HashDisplay.fmt.Goals as goal

pub unreachable-requires-in_default-from_utf8 : goal.unreachable-requires-in_default-from_utf8
unreachable-requires-in_default-from_utf8 g c =
    c.in_default-from_utf8.ensures.cases.0 (IsUtf8-from_ascii _ (rw c.in-Ok.ensures.written (IsAscii-encode_with lower_digits _ lower_is_ascii)))
