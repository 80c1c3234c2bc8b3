use Rattle.std.proofs.Common.{◌≡◌, ◌++◌, length, ap, arith}
use Rattle.rpki_base.specs.TimeText.{der_time}
use Rattle.rpki_idcert.proofs.Sizes.{times_size}
use Rattle.rpki_idcert.proofs.spelling.write_validity.Goals as goal

pub constructed-requires : goal.constructed-requires
constructed-requires c =
    let first : c.to_der_varied.new.out ≡ der_time c.args.validity.not_before = rw (c.inner-times.ensures, c.not_before.ensures) at c.in_ok-to_der_varied.ensures.ok in
    let both : c.to_der_varied-2.new.out ≡ der_time c.args.validity.not_before ++ der_time c.args.validity.not_after = rw (first, c.not_after.ensures) at c.in_ok-to_der_varied-2.ensures.ok in
    omega (arith, ap length both, times_size c.args.validity)
