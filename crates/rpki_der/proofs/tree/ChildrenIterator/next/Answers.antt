use Rattle.std.proofs.Common.{◌≡◌, [], None, length, ap, arith}
use Rattle.rpki_der.proofs.Nodes.{next_node, no_more}
use Rattle.rpki_der.proofs.tree.ChildrenIterator.next.Goals as goal

pub split_at-requires : goal.split_at-requires
split_at-requires c =
    let n = next_node c.self.inside.octets.now c.self.inside.entries.now c.in_ok-entry.entry.now c.in_ok-entry.behind.now c.self.invariant c.in_ok-entry.ensures.cases.0 in n.fits

pub split_at-requires-2 : goal.split_at-requires-2
split_at-requires-2 c =
    let n = next_node c.self.inside.octets.now c.self.inside.entries.now c.in_ok-entry.entry.now c.in_ok-entry.behind.now c.self.invariant c.in_ok-entry.ensures.cases.0 in n.all

pub invariant_of-result : goal.invariant_of-result
invariant_of-result c =
    let n = next_node c.self.inside.octets.now c.self.inside.entries.now c.in_ok-entry.entry.now c.in_ok-entry.behind.now c.self.invariant c.in_ok-entry.ensures.cases.0 in
    rw (c.split_at.ensures.front, c.split_at-2.ensures.front) n.node

pub invariant_of-self : goal.invariant_of-self
invariant_of-self c =
    let n = next_node c.self.inside.octets.now c.self.inside.entries.now c.in_ok-entry.entry.now c.in_ok-entry.behind.now c.self.invariant c.in_ok-entry.ensures.cases.0 in
    rw (c.split_at.ensures.back, c.split_at-2.ensures.back) n.others

pub returns-clause-steps : goal.returns-clause-steps
returns-clause-steps c =
    let n = next_node c.self.inside.octets.now c.self.inside.entries.now c.in_ok-entry.entry.now c.in_ok-entry.behind.now c.self.invariant c.in_ok-entry.ensures.cases.0 in
    rw (← c.self.view_is, c.split_at.ensures.front, c.split_at.ensures.back) n.steps

pub returns-clause-goes : goal.returns-clause-goes
returns-clause-goes c =
    let e = returns-clause-steps c in
    let less = ap length e in
    record { on = λ f. (tt, tt, omega (arith, less)); keeps = tt; rests = λ f. tt }

pub returns-in_err-entry-clause-steps : goal.returns-in_err-entry-clause-steps
returns-in_err-entry-clause-steps c =
    let n = no_more c.self.inside.octets.now c.self.inside.entries.now c.self.invariant c.in_err-entry.ensures.cases in
    let m : c.args.self.now ≡ [] = rw (← c.self.view_is) n in
    let e : c.from_residual.result ≡ None = c.from_residual.ensures in
    rw e (m, m)
