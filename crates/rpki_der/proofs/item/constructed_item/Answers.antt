use Rattle.std.proofs.Common.{[], sym, ap, ◌∙◌, Err, arith}
use Rattle.std.proofs.lemmas.Result.{err_from_is_err_and}
use Rattle.rpki_der.proofs.Items.{same_error, one_level, none_constructed, whole_constructed, passed_constructed}
use Rattle.rpki_der.proofs.Stops.{on_err, one_into, stops_first, stops_counted}
use Rattle.rpki_der.proofs.item.constructed_item.Goals as goal

pub returns-in_err-rest-clause-malformed : goal.returns-in_err-rest-clause-malformed
returns-in_err-rest-clause-malformed g c =
    λ e. let p = err_from_is_err_and c.from_residual-in_err-rest.result c.from_residual-in_err-rest.ensures.1 in
    none_constructed _ _ _ _ _ _ (one_level _ _ _ c.new-opened.ensures c.in_ok-push.ensures.ok) c.requires.opens (c.in_err-rest.ensures.malformed (ap Err (same_error _ _ (ap Err (sym p.2) ∙ sym p.1 ∙ e))))

pub in_front_of-requires : goal.in_front_of-requires
in_front_of-requires g c = record { within = passed_constructed _ _ _ _ _ _ _ _ _ (one_level _ _ _ c.new-opened.ensures c.in_ok-push.ensures.ok) c.requires.opens c.in_ok-rest.ensures.ok }

pub returns-clause-ok : goal.returns-clause-ok
returns-clause-ok g c =
    rw c.of.ensures (whole_constructed _ _ _ _ _ _ _ _ _ _ _ (one_level _ _ _ c.new-opened.ensures c.in_ok-push.ensures.ok) c.requires.opens c.in_ok-rest.ensures.ok c.content_of.ensures c.in_front_of.ensures)

pub returns-in_err-push-clause-stopped : goal.returns-in_err-push-clause-stopped
returns-in_err-push-clause-stopped g c = on_err _ _ (stops_first 0 _ _ _ _ _ (omega arith))

pub returns-in_err-rest-clause-stopped : goal.returns-in_err-rest-clause-stopped
returns-in_err-rest-clause-stopped g c =
    let one = one_into _ _ [] _ _ _ _ c.requires.opens (one_level _ _ _ c.new-opened.ensures c.in_ok-push.ensures.ok) in
    on_err _ _ (stops_counted _ _ _ _ _ _ _ one c.in_err-rest.ensures.stopped)
