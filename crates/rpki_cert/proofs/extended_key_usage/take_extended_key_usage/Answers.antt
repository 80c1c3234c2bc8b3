use Rattle.std.proofs.Common.{◌≡◌, [], refl, ◌∙◌}
use Rattle.std.proofs.lemmas.Bool.{false≢true}
use Rattle.rpki_der.proofs.Reading.{can_leave, not_ended, never_refused}
use Rattle.rpki_der.proofs.Counting.{takes_err, refuses_within, refuses_inside, takes_within, continues_here, continues_step, reads_gathered, stops_step, stops_gathered, stops_memory, takes_so, refuses_so, takes_smaller}
use Rattle.rpki_der.proofs.Leftovers.{takes_alike, refuses_alike}
use Rattle.rpki_cert.proofs.Lists.{purposes_are, none_of, those_of}
use Rattle.rpki_cert.proofs.extended_key_usage.take_extended_key_usage.Goals as goal

pub returns-in_err-enter_counted : goal.returns-in_err-enter_counted
returns-in_err-enter_counted g c = takes_err _ _ _ _ _ _ _ _ _ c.from_residual.ensures.1 (refuses_alike _ _ _ _ _ _ _ purposes_are (refuses_within _ _ _ c.args.cursor.now _ _ _ c.in_err-enter_counted.ensures.place c.in_err-enter_counted.ensures.ticks))

pub purposes-init : goal.purposes-init
purposes-init g c = rw c.new-oids.ensures.items (continues_here _ _ _ _)

pub purposes-smaller : goal.purposes-smaller
purposes-smaller g c = takes_smaller _ _ _ _ _ _ _ c.in_ok-oid.ensures

pub purposes-preserved : goal.purposes-preserved
purposes-preserved g c = rw c.in_ok-push.ensures.items (continues_step _ _ _ _ _ _ _ _ _ _ _ _ _ refl c.purposes.invariant (takes_so _ _ _ _ _ _ _ _ _ c.in_ok-oid.ensures refl))

pub returns-in_err-oid : goal.returns-in_err-oid
returns-in_err-oid g c = takes_err _ _ _ _ _ _ _ _ _ c.from_residual-in_err-oid.ensures.1 (refuses_alike _ _ _ _ _ _ _ purposes_are
    (refuses_inside _ _ _ _ _ _ _ _ _ _ refl c.in_ok-enter_counted.ensures.place c.in_ok-enter_counted.ensures.ticks (c.purposes.invariant.stops _ _ _ (stops_step _ _ _ _ _ _ _ _ _ refl (not_ended c.purposes-test.ensures) (refuses_so _ _ _ _ _ _ _ c.in_err-oid.ensures)))))

pub returns-in_err-push : goal.returns-in_err-push
returns-in_err-push g c = takes_err _ _ _ _ _ _ _ _ _ c.from_residual-in_err-push.ensures.1 (refuses_alike _ _ _ _ _ _ _ purposes_are
    (refuses_inside _ _ _ _ _ _ _ _ _ _ refl c.in_ok-enter_counted.ensures.place c.in_ok-enter_counted.ensures.ticks
    ((continues_step _ _ _ _ _ _ _ _ _ _ _ _ _ refl c.purposes.invariant (takes_so _ _ _ _ _ _ _ _ _ c.in_ok-oid.ensures refl)).stops _ _ _ (stops_memory _ _ _ _ _ refl))))

pub leave_counted-requires : goal.leave_counted-requires
leave_counted-requires g c = record { inside = can_leave _ c.args.cursor.now c.enter_counted.new.self c.purposes.cursor c.in_ok-enter_counted.ensures.place c.purposes.invariant.levels }

pub returns-in_err-leave_counted : goal.returns-in_err-leave_counted
returns-in_err-leave_counted g c = never_refused c.purposes.cursor _ (c.purposes-test.ensures.0 refl) c.in_err-leave_counted.ensures.place

pub returns-then-is_empty : goal.returns-then-is_empty
returns-then-is_empty g c =
    let e : c.purposes.oids.items ≡ [] = rw c.from_vec-oids.ensures at c.if-is_empty.ensures.0 refl in
    refuses_alike _ _ _ _ _ _ _ purposes_are
    (refuses_inside _ _ _ _ _ _ _ _ _ _ refl c.in_ok-enter_counted.ensures.place c.in_ok-enter_counted.ensures.ticks
    (c.purposes.invariant.stops _ _ _ (stops_gathered _ _ _ _ _ _ _ _ refl c.in_ok-leave_counted.ensures.place c.in_ok-leave_counted.ensures.ticks (none_of _ e))))

pub returns : goal.returns
returns g c =
    let n : c.purposes.oids.items ≡ [] → ⊥ = λ e. false≢true (c.if-is_empty.ensures.1 (c.from_vec-oids.ensures ∙ e)) in
    rw c.from_vec-oids.ensures (takes_alike _ _ _ _ _ _ _ _ purposes_are (takes_within _ _ _ _ _ _ _ _ _ _ _ refl c.in_ok-enter_counted.ensures.place c.in_ok-enter_counted.ensures.ticks
    (c.purposes.invariant.reads _ _ _ _ (reads_gathered _ _ _ _ _ _ _ _ _ refl c.in_ok-leave_counted.ensures.place c.in_ok-leave_counted.ensures.ticks (those_of _ n)))))
