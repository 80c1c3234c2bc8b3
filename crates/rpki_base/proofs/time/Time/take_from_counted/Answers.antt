use Rattle.std.proofs.Common.{sym}
use Rattle.rpki_der.proofs.Counting.{takes_err, refuses_so, refuses_convert}
use Rattle.rpki_base.proofs.Choosing.{utc_takes, utc_refuses, generalized_takes, generalized_refuses, refuses_memory}
use Rattle.rpki_base.proofs.time.Time.take_from_counted.Goals as goal

pub returns-in-Some : goal.returns-in-Some
returns-in-Some g c = utc_takes _ _ _ _ _ _ c.in-Ok.ensures.value (sym c.in-Some.ensures)

pub returns-in-None : goal.returns-in-None
returns-in-None g c = utc_refuses _ _ _ _ _ c.in-Ok.ensures.value (sym c.in-None.ensures)

pub returns-in-Err-OutOfMemory : goal.returns-in-Err-OutOfMemory
returns-in-Err-OutOfMemory g c = refuses_memory _ _ _ c.in-Err-OutOfMemory.ensures.ticks

pub returns-in_err-text-in-Err-Malformed : goal.returns-in_err-text-in-Err-Malformed
returns-in_err-text-in-Err-Malformed g c =
    let none = rw c.in-Err-Malformed.field-0-is at c.in-Err-Malformed.ensures.value.refuses in
    let y = rw c.in-Err-Malformed.ensures.err at c.in_err-text-in-Err-Malformed.ensures.value in
    takes_err _ _ _ _ _ _ _ _ _ c.from_residual.ensures.1 (generalized_refuses _ _ _ _ _ none c.in-Err-Malformed.ensures.ticks c.in_err-text-in-Err-Malformed.ensures.ticks (refuses_so _ _ _ _ _ _ _ y))

pub returns-in-Some-generalized_time : goal.returns-in-Some-generalized_time
returns-in-Some-generalized_time g c =
    let none = rw c.in-Err-Malformed.field-0-is at c.in-Err-Malformed.ensures.value.refuses in
    let y = rw c.in-Err-Malformed.ensures.err at c.in_ok-text-in-Err-Malformed.ensures.value in
    generalized_takes _ _ _ _ _ _ _ none c.in-Err-Malformed.ensures.ticks c.in_ok-text-in-Err-Malformed.ensures.ticks y (sym c.in-Some-generalized_time.ensures)

pub returns-in-None-generalized_time : goal.returns-in-None-generalized_time
returns-in-None-generalized_time g c =
    let none = rw c.in-Err-Malformed.field-0-is at c.in-Err-Malformed.ensures.value.refuses in
    let y = rw c.in-Err-Malformed.ensures.err at c.in_ok-text-in-Err-Malformed.ensures.value in
    generalized_refuses _ _ _ _ _ none c.in-Err-Malformed.ensures.ticks c.in_ok-text-in-Err-Malformed.ensures.ticks (refuses_convert _ _ _ _ _ _ _ _ y (sym c.in-None-generalized_time.ensures))
