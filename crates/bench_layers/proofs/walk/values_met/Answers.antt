use Rattle.std.proofs.Common.{◌≡◌, ℕ, Result, sym, ap, ◌∙◌, Err, arith}
use Rattle.rpki_der.specs.declared.error.DecodeError.{DecodeError}
use Rattle.rpki_der.specs.declared.error.DecodeError.TheVariants.{Malformed}
use Rattle.std.proofs.lemmas.Result.{err_from_is_err_and}
use Rattle.rpki_der.proofs.Reading.{not_ended}
use Rattle.bench_layers.proofs.Onwards.{gone_on, gone_out, out_smaller, refused, all_met}
use Rattle.bench_layers.proofs.walk.values_met.Goals as goal

pub levels-preserved-in-Continue-branch-2 : goal.levels-preserved-in-Continue-branch-2
levels-preserved-in-Continue-branch-2 c =
    let left = c.in_ok-leave.ensures.place in
    let less = out_smaller _ _ (omega arith) left in
    record {
      stands = gone_out _ _ _ (omega arith) c.levels.invariant.stands left;
      some = c.levels.invariant.some;
      most = omega arith;
    }

pub returns-in_err-go_on-2-clause-malformed : goal.returns-in_err-go_on-2-clause-malformed
returns-in_err-go_on-2-clause-malformed c =
    λ e. let p = err_from_is_err_and c.from_residual-in_err-go_on-2.result c.from_residual-in_err-go_on-2.ensures.1 in
    let same : ◌≡◌ {A = Result ℕ DecodeError} (Err c.in_err-go_on-2.field-0.0) (Err Malformed) = ap Err (sym p.2) ∙ sym p.1 ∙ e in
    refused _ _ (omega arith) (not_ended c.if-end.ensures) c.levels.invariant.stands (c.in_err-go_on-2.ensures.malformed (cc same))

pub levels-preserved : goal.levels-preserved
levels-preserved c =
    let on = c.in_ok-go_on-2.ensures.ok in
    record {
      stands = gone_on _ _ _ (omega arith) (not_ended c.if-end.ensures) c.levels.invariant.stands on;
      some = omega arith;
      most = let less = on.smaller in omega arith;
    }

pub returns-clause-ok : goal.returns-clause-ok
returns-clause-ok c = all_met _ _ _ (omega arith) c.levels.invariant.stands c.levels.invariant.some (omega arith)
