use Rattle.std.proofs.Common.{refl, sym, arith}
use Rattle.std.proofs.Math.ListN.{length-set}
use Rattle.rpki_base.proofs.Upper.{upper_step, upper_none, upper_whole}
use Rattle.rpki_base.proofs.key_identifier.upper_text.Goals as goal

pub loop-i-init : goal.loop-i-init
loop-i-init c = (refl, c.told-octets, sym upper_none)

pub loop-i-preserved : goal.loop-i-preserved
loop-i-preserved c =
    let inv = c.loop-i.invariant in (
      simp length-set inv.0,
      inv.1,
      upper_step c.args.octets.now c.loop-i.out c.loop-i.i c.upper_digit.result c.upper_digit-in-loop-i.result
          (omega (arith, inv.1, c.loop-i-test.true)) (omega (arith, inv.0, c.loop-i-test.true)) c.upper_digit.ensures c.upper_digit-in-loop-i.ensures inv.2,
    )

pub returns : goal.returns
returns c =
    let inv = c.loop-i.invariant in
    upper_whole c.args.octets.now c.loop-i.out c.loop-i.i 0 0
    (omega (arith, inv.1, c.loop-i-test.false)) (omega (arith, inv.0, c.loop-i-test.false)) inv.2
