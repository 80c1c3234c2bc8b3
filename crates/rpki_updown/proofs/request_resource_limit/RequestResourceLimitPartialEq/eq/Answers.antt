use Rattle.std.proofs.Common.{◌≡◌, rules}
use Rattle.rpki_updown.specs.RequestResourceLimit.{are_same}
use Rattle.rpki_updown.proofs.Limits.{same_limits}
use Rattle.rpki_updown.proofs.request_resource_limit.RequestResourceLimitPartialEq.eq.Goals as goal

pub returns-then-eq-2-clause-same : goal.returns-then-eq-2-clause-same
returns-then-eq-2-clause-same c =
    let e : c.eq-then-eq-2.result ≡ are_same c.args.self.now c.args.other.now = search rules in same_limits _ _ _ e

pub returns-else-eq-2-clause-same : goal.returns-else-eq-2-clause-same
returns-else-eq-2-clause-same c =
    let e : c.if-eq.value ≡ are_same c.args.self.now c.args.other.now = search rules in same_limits _ _ _ e
