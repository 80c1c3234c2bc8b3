use Rattle.std.proofs.Common.{length}
use Rattle.std.specs.Fmt.{IsPlainFormatter}
use Rattle.rpki_der.specs.Arcs.{subidentifier_parts, later_text}
use Rattle.rpki_der.proofs.Dotted.{Wrote}
use Rattle.rpki_der.proofs.arcs.OidDisplay.fmt.Given as goal

-- what was written is the text of the arcs up to those that are left
abbrev pub invariant-arcs : goal.invariant-arcs
invariant-arcs g l =
    IsPlainFormatter l.initial.f → Wrote g.W.Write.write_str_gives l.initial.f l.f (later_text (subidentifier_parts l.rest)) (later_text (subidentifier_parts l.initial.rest))

abbrev pub decreases-arcs : goal.decreases-arcs
decreases-arcs g l = length l.rest
