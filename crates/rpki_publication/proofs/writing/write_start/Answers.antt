use Rattle.std.proofs.Common.{refl}
use Rattle.std.proofs.lemmas.Grind.{put_two}
use Rattle.std.proofs.Common.{rules}
use Rattle.rpki_xml.specs.Spelling.{spelled_value}
use Rattle.rpki_publication.proofs.writing.write_start.Goals as goal

pub returns : goal.returns
unfolding spelled_value
returns g c = λ plain ok.
    let one = c.write_str.ensures.writes plain (search rules) in
    put_two _ _ _ _ _ _ _ one (c.write_attribute.ensures one.plain ok) refl
