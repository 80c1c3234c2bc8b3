use Rattle.std.proofs.Common.{◌≡◌, ◌+◌, ◌-◌, ◌++◌, ◌∙◌, length, refl, ap, subst, arith}
use Rattle.rpki_signer.specs.ToySigner.{octets_from}
use Rattle.std.specs.Prelude.{take, drop}
use Rattle.rpki_signer.proofs.Random.{filled, at_end}
use Rattle.rpki_signer.proofs.toy_signer.fill_random.Goals as goal

pub fill-init : goal.fill-init
fill-init c =
    let e : length c.args.target.now - 0 ≡ length c.args.target.now = omega arith in
    (omega arith, omega arith, refl, ap (λ k. octets_from c.args.seed c.args.number 0 k) e)

pub overflow_add-block : goal.overflow_add-block
overflow_add-block c = omega (arith, c.fill.invariant.0, c.fill.invariant.1, c.fill-test.true, c.fill.auto.target)

pub fill-preserved : goal.fill-preserved
fill-preserved c =
    let e = subst (λ o. c.copy_at.new.target ≡ take c.fill.at c.fill.target ++ (take c.min-count.result o ++ drop (c.fill.at + length (take c.min-count.result o)) c.fill.target)) c.random_block-octets.ensures c.copy_at.ensures in
    let f = filled c.args.seed c.args.number c.fill.block c.fill.at c.min-count.result c.fill.target c.copy_at.new.target _ c.fill-test.true c.min-count.ensures e c.fill.invariant.3 in
    (f.2, omega (arith, c.fill.invariant.1, f.3), f.1 ∙ c.fill.invariant.2, f.0)

pub returns : goal.returns
returns c = at_end c.args.seed c.args.number c.fill.block c.fill.at c.fill.target _ c.fill-test.false c.fill.invariant.0 c.fill.invariant.3
