use Rattle.std.proofs.Common.{ℕ, arith, length-take}
use Rattle.rpki_text.proofs.Pieces.{read_more}
use Rattle.rpki_text.proofs.reading.read_all.Goals as goal

pub returns-then-count-left-clause-too_long : goal.returns-then-count-left-clause-too_long
returns-then-count-left-clause-too_long g c =
    let taken = read_more _ _ _ c.reading.out.items c.read.new.into c.in-Ok.count
    c.reading.invariant.taken c.in-Ok.ensures.next c.in-Ok.ensures.bound.0 in
    λ _. (taken.0, taken.1, omega (arith, taken.2, c.in-Ok.ensures.bound.0, length-take {A = ℕ}))

pub returns-then-count-left-clause-most : goal.returns-then-count-left-clause-most
returns-then-count-left-clause-most g c =
    let taken = read_more _ _ _ c.reading.out.items c.read.new.into c.in-Ok.count
    c.reading.invariant.taken c.in-Ok.ensures.next c.in-Ok.ensures.bound.0 in
    (taken.0, taken.1, omega (arith, taken.2, c.in-Ok.ensures.bound.0, length-take {A = ℕ}))

pub returns-in_err-append-clause-most : goal.returns-in_err-append-clause-most
returns-in_err-append-clause-most g c =
    let taken = read_more _ _ _ c.reading.out.items c.read.new.into c.in-Ok.count
    c.reading.invariant.taken c.in-Ok.ensures.next c.in-Ok.ensures.bound.0 in
    (taken.0, taken.1, omega (arith, taken.2, c.in-Ok.ensures.bound.0, length-take {A = ℕ}))

pub returns-in_err-append-clause-no_more : goal.returns-in_err-append-clause-no_more
returns-in_err-append-clause-no_more g c =
    let taken = read_more _ _ _ c.reading.out.items c.read.new.into c.in-Ok.count
    c.reading.invariant.taken c.in-Ok.ensures.next c.in-Ok.ensures.bound.0 in
    λ _. (taken.0, taken.1, omega (arith, taken.2, c.in-Ok.ensures.bound.0, length-take {A = ℕ}))
