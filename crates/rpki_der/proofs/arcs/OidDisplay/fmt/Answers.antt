use Rattle.std.proofs.Common.{rules, ◌++◌, ap, sym, ◌∙◌}
use Rattle.std.specs.Fmt.{HasWritten}
use Rattle.std.specs.Prelude.{codes}
use Rattle.rpki_der.specs.Arcs.{arc_text, first_text, later_text, subidentifier_parts}
use Rattle.rpki_der.proofs.Dotted.{wrote_more, wrote_all, wrote_none}
use Rattle.rpki_der.proofs.arcs.OidDisplay.fmt.Goals as goal

pub returns-in_default-clause-writes : goal.returns-in_default-clause-writes
returns-in_default-clause-writes g c = λ plain yes. wrote_none _ _ c.args.self.now (ap subidentifier_parts (sym c.as_slice.ensures) ∙ c.in_default.ensures.none) plain

pub arcs-preserved : goal.arcs-preserved
arcs-preserved g c = λ plain.
    let w = c.arcs.invariant plain in
    let plain' = w.written.plain in
    wrote_more _ _ _ _ (codes "." ++ arc_text c.in-Some-split_subidentifier.octets.now) _ _ _ w (ap later_text c.in-Some-split_subidentifier.ensures.found) (search rules)

pub returns-clause-writes : goal.returns-clause-writes
returns-clause-writes g c = λ plain yes.
    let p : HasWritten g.W.Write.write_str_gives c.args.f.now (first_text c.in-Some.octets.now) c.write.new.self = search rules in
    wrote_all _ _ _ _ c.args.self.now c.in-Some.octets.now c.arcs.rest.now (subidentifier_parts c.in-Some.behind.now) (ap subidentifier_parts (sym c.as_slice.ensures) ∙ c.in-Some.ensures.found) p (c.arcs.invariant p.plain) c.in_default-split_subidentifier.ensures.none
