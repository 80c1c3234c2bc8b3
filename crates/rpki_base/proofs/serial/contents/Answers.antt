use Rattle.std.proofs.Common.{◌≡◌, ◌<◌, suc, get_or, refl, sym, ap, ◌∙◌, arith}
use Rattle.rpki_base.specs.Serial.{significant, unsigned_content}
use Rattle.rpki_base.proofs.Serials.{stop_first, stop_second, stop_last, zero_goes}
use Rattle.rpki_base.proofs.serial.contents.Goals as goal
use Rattle.rpki_base.proofs.serial.contents.Goals.{then-longer-start-ne0-via-then-longer-start-ne0, then-longer-start-ne0-via-else-longer-start-ne0+then-longer-start-ge128}

pub loop-start-init : goal.loop-start-init
unfolding significant
loop-start-init c = rw c.behind_zero-longer.ensures (ap suc c.told-octets, omega arith, refl)

pub returns-then-longer-start-ne0-clause-contents : goal.returns-then-longer-start-ne0-clause-contents
returns-then-longer-start-ne0-clause-contents c =
    let inv = c.loop-start.invariant in
    elim c.then-longer-start-ne0.branch [
      | then-longer-start-ne0-via-then-longer-start-ne0 w ↦ sym (stop_first c.behind_zero-longer.result c.loop-start.start (omega (arith, inv.0)) inv.1 w.if-longer-start-ne0.true) ∙ inv.2
      | then-longer-start-ne0-via-else-longer-start-ne0+then-longer-start-ge128 w ↦ sym (stop_second c.behind_zero-longer.result c.loop-start.start (omega (arith, inv.0, c.loop-start-test.true)) w.if-longer-start-ne0.false w.if-longer-start-ge128.true) ∙ inv.2
    ]

pub loop-start-preserved : goal.loop-start-preserved
loop-start-preserved c =
    let inv = c.loop-start.invariant in
    (inv.0, c.if-longer-start-ge128.false, ap unsigned_content (sym (zero_goes c.behind_zero-longer.result c.loop-start.start (omega (arith, inv.0, c.loop-start-test.true)) c.if-longer-start-ne0.false)) ∙ inv.2)

pub returns-clause-contents : goal.returns-clause-contents
returns-clause-contents c =
    let inv = c.loop-start.invariant in
    let last : c.loop-start.start ≡ 20 = omega arith in
    let small : get_or c.behind_zero-longer.result 20 0 < 128 = rw last at inv.1 in
    sym (stop_last c.behind_zero-longer.result 20 inv.0 small) ∙ (rw last at inv.2)
