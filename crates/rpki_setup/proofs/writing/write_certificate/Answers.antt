use Rattle.std.proofs.Common.{rules}
use Rattle.std.proofs.lemmas.Grind.{put_three}
use Rattle.rpki_setup.proofs.Roots.{certificate_spelled}
use Rattle.rpki_setup.proofs.writing.write_certificate.Goals as goal

pub returns : goal.returns
returns g c = λ plain ok.
    let one = c.write_str.ensures.writes plain (search rules) in
    let two = c.write_str-2.ensures.writes one.plain (search rules) in
    put_three _ _ _ _ _ _ _ _ _ one two (c.write_base64.ensures two.plain ok)
    (certificate_spelled c.args.name.now c.args.certificate.now)
