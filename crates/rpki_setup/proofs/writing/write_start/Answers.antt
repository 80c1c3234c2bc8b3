use Rattle.std.proofs.Common.{refl, rules}
use Rattle.std.proofs.lemmas.Grind.{put_three}
use Rattle.rpki_xml.specs.Spelling.{spelled_value}
use Rattle.rpki_setup.proofs.writing.write_start.Goals as goal

pub returns : goal.returns
unfolding spelled_value
returns g c = λ plain ok.
    let one = c.write_str.ensures.writes plain (search rules) in
    let two = c.write_str-2.ensures.writes one.plain (search rules) in
    put_three _ _ _ _ _ _ _ _ _ one two (c.write_str-3.ensures.writes two.plain ok) refl
