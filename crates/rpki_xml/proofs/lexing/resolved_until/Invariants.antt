use Rattle.std.proofs.Common.{◌≡◌, ◌≤◌, length}
use Rattle.rpki_xml.specs.Lexing.{ends_at, character_at}
use Rattle.rpki_xml.proofs.Until.{Until}
use Rattle.rpki_xml.proofs.lexing.resolved_until.Given as goal

-- what was read, and that nothing was read where nothing moved
abbrev pub invariant-characters : goal.invariant-characters
invariant-characters l = record {
  read : Until (ends_at l.at_end l.stop) character_at l.b l.value.items l.rest;
  shorter : length l.rest ≤ length l.b;
  same : length l.rest ≡ length l.b → l.rest ≡ l.b;
}

abbrev pub decreases-characters : goal.decreases-characters
decreases-characters l = length l.rest
