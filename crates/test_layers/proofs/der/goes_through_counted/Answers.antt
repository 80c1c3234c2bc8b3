use Rattle.std.proofs.Common.{◌≡◌, ◌+◌}
use Rattle.test_layers.proofs.Row.{through, on_ok}
use Rattle.test_layers.proofs.der.goes_through_counted.Goals as goal

pub returns : goal.returns
returns g c =
    let value = rw c.in-Some.is at c.in_ok-next_value_counted.ensures.value in
    let ticks = rw c.in-Some.is at c.in_ok-next_value_counted.ensures.ticks in
    on_ok c.if-eq-2.result (c.leave_counted.new.steps ≡ c.args.steps.now + 3)
    (through _ _ _ _ _ _ _ _ _ _ c.new-cursor.ensures c.in_ok-enter_counted.ensures.place c.in_ok-enter_counted.ensures.ticks ticks.1 value.takes.levels value.takes.mode ticks.2 c.in_ok-leave_counted-in-Some.ensures.place c.in_ok-leave_counted-in-Some.ensures.ticks)
