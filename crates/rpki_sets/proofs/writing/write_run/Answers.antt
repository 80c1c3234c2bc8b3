use Rattle.std.proofs.Common.{arith, rules, sym}
use Rattle.std.proofs.lemmas.Grind.{common_steps}
use Rattle.rpki_sets.proofs.WritingLemmas.{run_text-prefix, run_text-no_prefix, run_text-one, run_text-two}
use Rattle.rpki_sets.proofs.writing.write_run.Goals as goal

pub returns-in_ok-write-in-Some : goal.returns-in_ok-write-in-Some
returns-in_ok-write-in-Some g c =
    rw (run_text-prefix g.N.Numbers.kind c.args.run.now _ _ c.width.ensures (sym c.if-has_prefixes.ensures) c.in-Some.ensures) (first_of (search rules, grind (arith, common_steps)))

pub returns-in-None : goal.returns-in-None
returns-in-None g c =
    rw (run_text-no_prefix g.N.Numbers.kind c.args.run.now _ c.width.ensures (sym c.if-has_prefixes.ensures) c.in-None.ensures) c.write_range.ensures

pub returns-then-run : goal.returns-then-run
returns-then-run g c =
    rw (run_text-one g.N.Numbers.kind c.args.run.now (sym c.if-has_prefixes.ensures) c.if-run.true) c.write-then-run.ensures

pub returns-else-run : goal.returns-else-run
returns-else-run g c =
    rw (run_text-two g.N.Numbers.kind c.args.run.now (sym c.if-has_prefixes.ensures) c.if-run.false) c.write_range-else-run.ensures
