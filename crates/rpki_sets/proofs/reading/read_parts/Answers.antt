use Rattle.std.proofs.Common.{Some, sym, ap, ◌∙◌}
use Rattle.rpki_sets.specs.declared.run.Run.{Run}
use Rattle.rpki_sets.specs.Kinds.{spaced_item}
use Rattle.rpki_sets.proofs.Cutting.{cut_shorter}
use Rattle.rpki_sets.proofs.ReadingLemmas.{read_start, read_more, part_none, last_none, last_some}
use Rattle.rpki_sets.proofs.reading.read_parts.Goals as goal

pub parts-init : goal.parts-init
parts-init g c = read_start _ _ _ _ c.new-runs.ensures.items

pub parts-smaller : goal.parts-smaller
parts-smaller g c = cut_shorter _ _ _ _ c.in-Some.ensures.some

pub parts-preserved : goal.parts-preserved
parts-preserved g c =
    rw c.in_ok-push.ensures.items (read_more Run (spaced_item g.N.Numbers.kind) _ _ _ _ _ _ c.in-Some.ensures.some (sym c.in-Some-read_spaced_item.ensures) c.parts.invariant)

pub returns-in_default-read_spaced_item-clause-malformed : goal.returns-in_default-read_spaced_item-clause-malformed
returns-in_default-read_spaced_item-clause-malformed g c =
    λ _. part_none Run (spaced_item g.N.Numbers.kind) _ _ _ _ _ c.in-Some.ensures.some (sym c.in_default-read_spaced_item.ensures) c.parts.invariant

pub returns-in_default-read_spaced_item-2-clause-malformed : goal.returns-in_default-read_spaced_item-2-clause-malformed
returns-in_default-read_spaced_item-2-clause-malformed g c =
    λ _. last_none Run (spaced_item g.N.Numbers.kind) _ _ _ c.in_default.ensures.none (sym c.in_default-read_spaced_item-2.ensures) c.parts.invariant

pub returns-clause-runs : goal.returns-clause-runs
returns-clause-runs g c =
    last_some Run (spaced_item g.N.Numbers.kind) _ _ _ _ c.in_default.ensures.none (sym c.in-Some-read_spaced_item-2.ensures) c.parts.invariant
    ∙ sym (ap Some c.in_ok-push-2.ensures.items)
