use Rattle.std.proofs.Common.{length, ap, arith}
use Rattle.rpki_ca.proofs.Cutting.{line_first}
use Rattle.rpki_ca.proofs.lines.LinesIterator.next.Goals as goal

pub returns-in-Some-clause-steps : goal.returns-in-Some-clause-steps
returns-in-Some-clause-steps c = rw (← c.self.view_is) (line_first c.self.inside.rest.now c.in-Some.line.now c.in-Some.behind.now c.in-Some.ensures.some)

pub returns-in-Some-clause-goes : goal.returns-in-Some-clause-goes
returns-in-Some-clause-goes c =
    let e = returns-in-Some-clause-steps c in
    let less = ap length e in
    record { on = λ f. (tt, tt, omega (arith, less)); keeps = tt; rests = λ f. tt }
