use Rattle.std.proofs.lemmas.Str.{IsUtf8-from_ascii}
use Rattle.rpki_base.proofs.Offsets.{text_is_ascii}
use Rattle.rpki_base.proofs.time.Time.to_rfc3339.Goals as goal

pub unreachable-requires : goal.unreachable-requires
unreachable-requires c = c.in_default.ensures.cases.0 (IsUtf8-from_ascii _ (rw c.rfc3339_text-digits.ensures (text_is_ascii c.at-civil.result c.at-civil.ensures.digits)))
