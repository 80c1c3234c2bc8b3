use Rattle.rpki_sets.proofs.Decimals.{IsReading}
use Rattle.rpki_sets.proofs.texts.decimal_below.Given as goal

abbrev pub invariant-digits : goal.invariant-digits
invariant-digits l = IsReading l.limit l.text l.octet-index l.number
