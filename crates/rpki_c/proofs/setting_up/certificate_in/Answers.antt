use Rattle.std.proofs.Common.{◌≡◌, rules}
use Rattle.rpki_ca.specs.Setup.{certificate_octets}
use Rattle.rpki_c.proofs.setting_up.certificate_in.Goals as goal

pub returns-clause-err : goal.returns-clause-err
returns-clause-err c =
    let same : c.as_slice.result.now ≡ certificate_octets c.args.message.now = search rules in
    rw same at c.certificate_at.ensures.err
