use Rattle.std.proofs.Common.{length, sym, ap, ◌∙◌, Err}
use Rattle.std.proofs.lemmas.Result.{err_from_is_err_and}
use Rattle.rpki_der.proofs.Growing.{end_last, on_last, refused_last, done_last}
use Rattle.rpki_der.proofs.Items.{same_error}
use Rattle.rpki_der.proofs.index.index_value.Goals as goal

pub levels-preserved-in-Some-level_end : goal.levels-preserved-in-Some-level_end
levels-preserved-in-Some-level_end c =
    let last = rw c.deref.ensures.value at (sym c.in-Some.ensures.value) in
    let len = sym c.deref.ensures.len ∙ ap length c.deref.ensures.value in
    rw (c.pop.ensures.rest, len) (end_last _ _ _ _ c.levels.levels.items _ _ _ _ last c.levels.invariant c.in-Some-level_end.ensures.found c.saturating_sub-size.ensures c.close.ensures)

pub returns-in_err-here-in-None-clause-malformed :
    goal.returns-in_err-here-in-None-clause-malformed
returns-in_err-here-in-None-clause-malformed c =
    λ e. let last = rw c.deref.ensures.value at (sym c.in-Some.ensures.value) in
    let p = err_from_is_err_and c.from_residual-in_err-here-in-None.result c.from_residual-in_err-here-in-None.ensures.1 in
    refused_last _ _ _ c.levels.levels.items _ _ last c.levels.invariant c.in-None.ensures.none (c.in_err-here-in-None.ensures.malformed (ap Err (same_error _ _ (ap Err (sym p.2) ∙ sym p.1 ∙ e))))

pub levels-preserved : goal.levels-preserved
levels-preserved c =
    let last = rw c.deref.ensures.value at (sym c.in-Some.ensures.value) in
    on_last _ _ _ _ c.levels.levels.items c.descend-in-None.new.levels.items _ _ _ last c.levels.invariant c.in-None.ensures.none c.in_ok-here-in-None.ensures.ok

pub returns-clause-ok : goal.returns-clause-ok
returns-clause-ok c =
    done_last _ _ _ c.levels.levels.items _ (rw c.deref.ensures.value at c.in_default.ensures.item.3) c.levels.invariant
