use Rattle.std.proofs.Common.{arith, rules, refl, sym, ◌∙◌}
use Rattle.std.proofs.lemmas.Grind.{common_steps}
use Rattle.std.proofs.lemmas.List.{nil_from_length}
use Rattle.rpki_sets.specs.declared.run.Run.{Run}
use Rattle.rpki_sets.proofs.WritingLemmas.{text_of-nil, text_of-start, text_of-more, text_of-all}
use Rattle.rpki_sets.proofs.Fitted.{first_fits, later_fits}
use Rattle.rpki_sets.proofs.blocks.BlocksDisplay.fmt.Goals as goal

pub each-init : goal.each-init
each-init g c = λ p. rw (text_of-start g.N.Numbers.kind _ _ _ (sym c.runs.ensures.runs ∙ c.in-Some.ensures.cases.0)) (c.in_ok-write_run.ensures p refl)

pub returns-in_default-clause-writes : goal.returns-in_default-clause-writes
returns-in_default-clause-writes g c = let none = sym c.runs.ensures.runs ∙ nil_from_length _ c.in_default.ensures.cases in rw (none, text_of-nil g.N.Numbers.kind) (search rules)

pub write_run-requires-clause-within : goal.write_run-requires-clause-within
write_run-requires-clause-within g c = (first_fits _ _ _ _ c.runs.ensures.set (sym c.runs.ensures.runs ∙ c.in-Some.ensures.cases.0)).within

pub write_run-requires-in-each-clause-ordered : goal.write_run-requires-in-each-clause-ordered
write_run-requires-in-each-clause-ordered g c = (later_fits _ _ _ _ c.runs.ensures.set (sym c.runs.ensures.runs ∙ c.in-Some.ensures.cases.0) _ _ c.each-test.true).ordered

pub write_run-requires-in-each-clause-within : goal.write_run-requires-in-each-clause-within
write_run-requires-in-each-clause-within g c = (later_fits _ _ _ _ c.runs.ensures.set (sym c.runs.ensures.runs ∙ c.in-Some.ensures.cases.0) _ _ c.each-test.true).within

pub each-preserved : goal.each-preserved
each-preserved g c =
    let is = sym c.runs.ensures.runs ∙ c.in-Some.ensures.cases.0 in
    let d : Run = record { first = 0; last = 0 } in
    λ p. rw (text_of-more g.N.Numbers.kind _ _ _ is _ d c.each-test.true) (grind (arith, common_steps, c.each.invariant p))

pub returns-clause-writes : goal.returns-clause-writes
returns-clause-writes g c =
    let is = sym c.runs.ensures.runs ∙ c.in-Some.ensures.cases.0 in
    λ p ok. rw (← text_of-all g.N.Numbers.kind _ _ _ is _ c.each-test.false) (c.each.invariant p)
