use Rattle.std.proofs.lemmas.Result.{err_from_is_err_and}
use Rattle.rpki_der.proofs.Reading.{refuses_memory}
use Rattle.rpki_der.proofs.Joining.{segment_primitive, segment_enter, refused_both}
use Rattle.rpki_der.proofs.Counting.{uncounted_one}
use Rattle.rpki_der.proofs.OnwardWalks.{onward_enter, onward_one}
use Rattle.std.proofs.Common.{arith}
use Rattle.rpki_der.proofs.octets.segment.Goals as goal

pub returns-in_err-contents-in-Err-Malformed-clause-place :
    goal.returns-in_err-contents-in-Err-Malformed-clause-place
returns-in_err-contents-in-Err-Malformed-clause-place g c =
    let p = err_from_is_err_and c.from_residual.result c.from_residual.ensures.1 in
    rw (p.1, p.2) (refused_both _ c.args.cursor.now _ (rw c.in-Err-Malformed.field-0-is at c.in-Err-Malformed.ensures.place) (rw c.in-Err-Malformed.ensures.err at c.in_err-contents-in-Err-Malformed.ensures.value.refuses))

pub returns-in_err-extend_from_slice-in-Err-Malformed-clause-place :
    goal.returns-in_err-extend_from_slice-in-Err-Malformed-clause-place
returns-in_err-extend_from_slice-in-Err-Malformed-clause-place g c =
    let p = err_from_is_err_and c.from_residual-in_err-extend_from_slice-in-Err-Malformed.result c.from_residual-in_err-extend_from_slice-in-Err-Malformed.ensures.1 in
    rw (p.1, p.2) (refuses_memory _ _)

pub returns-in-Ok-clause-place : goal.returns-in-Ok-clause-place
returns-in-Ok-clause-place g c = segment_enter _ _ _ _ c.in-Ok.ensures.place

pub returns-in-Err-OutOfMemory-clause-place : goal.returns-in-Err-OutOfMemory-clause-place
returns-in-Err-OutOfMemory-clause-place g c = refuses_memory _ _

pub returns-in_ok-extend_from_slice-in-Err-Malformed-clause-place :
    goal.returns-in_ok-extend_from_slice-in-Err-Malformed-clause-place
returns-in_ok-extend_from_slice-in-Err-Malformed-clause-place g c =
    rw c.in_ok-extend_from_slice-in-Err-Malformed.ensures.items (segment_primitive _ _ _ _ _ (rw c.in-Err-Malformed.ensures.err at (uncounted_one _ _ _ _ _ _ _ c.in_ok-contents-in-Err-Malformed.ensures.value)))

pub returns-in-Ok-clause-counted : goal.returns-in-Ok-clause-counted
returns-in-Ok-clause-counted g c = onward_enter _ _ _ _ _ c.in-Ok.ensures.place c.in-Ok.ensures.ticks

pub returns-in_ok-extend_from_slice-in-Err-Malformed-clause-counted :
    goal.returns-in_ok-extend_from_slice-in-Err-Malformed-clause-counted
returns-in_ok-extend_from_slice-in-Err-Malformed-clause-counted g c =
    onward_one _ _ _ _ _ _ _ _ (rw c.in-Err-Malformed.ensures.err at c.in_ok-contents-in-Err-Malformed.ensures.value) (omega (arith, c.in-Err-Malformed.ensures.ticks))
