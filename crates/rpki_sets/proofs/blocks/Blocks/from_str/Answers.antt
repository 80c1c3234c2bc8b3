use Rattle.std.proofs.Common.{Some, sym, ap, ◌∙◌}
use Rattle.std.proofs.lemmas.Result.{err_from_is_err_and}
use Rattle.rpki_sets.specs.Kinds.{runs_of}
use Rattle.rpki_sets.proofs.Fitting.{AllFit-runs_of, AllOrdered-fit, IsSet-union, blocks_of-some, blocks_of-none, same_err, numbers_of_runs}
use Rattle.rpki_sets.proofs.blocks.Blocks.from_str.Goals as goal

pub returns-in_err-runs-clause-malformed : goal.returns-in_err-runs-clause-malformed
returns-in_err-runs-clause-malformed g c =
    let p = err_from_is_err_and c.from_residual.result c.from_residual.ensures.1 in
    rw (p.1, p.2) (λ h. blocks_of-none g.N.Numbers.kind c.args.text.now (sym (ap (runs_of g.N.Numbers.kind) c.as_bytes.ensures.value) ∙ c.in_err-runs.ensures.malformed (same_err _ _ h)))

pub union-requires : goal.union-requires
union-requires g c =
    AllOrdered-fit g.N.Numbers.kind c.law.ensures _ (AllFit-runs_of g.N.Numbers.kind c.law.ensures _ _ c.in_ok-runs.ensures.runs)

pub invariant_of-result : goal.invariant_of-result
invariant_of-result g c =
    rw c.in_ok-union.ensures
    (IsSet-union g.N.Numbers.kind c.law.ensures _ (AllFit-runs_of g.N.Numbers.kind c.law.ensures _ _ c.in_ok-runs.ensures.runs))

pub returns-clause-set : goal.returns-clause-set
returns-clause-set g c =
    blocks_of-some g.N.Numbers.kind c.args.text.now _ (sym (ap (runs_of g.N.Numbers.kind) c.as_bytes.ensures.value) ∙ c.in_ok-runs.ensures.runs)
    ∙ sym (ap Some c.in_ok-union.ensures)

pub returns-clause-numbers : goal.returns-clause-numbers
returns-clause-numbers g c =
    numbers_of_runs g.N.Numbers.kind c.args.text.now c.law.ensures _ _ (sym (ap (runs_of g.N.Numbers.kind) c.as_bytes.ensures.value) ∙ c.in_ok-runs.ensures.runs) c.in_ok-union.ensures
