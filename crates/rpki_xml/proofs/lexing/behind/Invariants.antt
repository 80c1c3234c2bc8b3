use Rattle.std.proofs.Common.{◌≡◌, ◌≤◌, drop, length}
use Rattle.rpki_xml.specs.Content.{behind}
use Rattle.rpki_xml.proofs.lexing.behind.Given as goal

abbrev pub invariant-loop-c : goal.invariant-loop-c
invariant-loop-c l = (behind (drop l.c-index l.front) l.rest ≡ behind l.front l.b) × (length l.rest ≤ length l.b)
