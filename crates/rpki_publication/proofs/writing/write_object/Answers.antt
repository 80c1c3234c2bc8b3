use Rattle.std.proofs.Common.{rules, ◌∙◌}
use Rattle.std.proofs.lemmas.Grind.{put_four}
use Rattle.rpki_publication.proofs.Texts.{object_text}
use Rattle.rpki_publication.proofs.writing.write_object.Goals as goal

pub returns : goal.returns
returns g c = λ plain ok.
    let one = c.write_str.ensures.writes plain (search rules) in
    let two = c.write_attribute.ensures one.plain (search rules) in
    let three = c.write_hash.ensures two.plain (search rules) in
    put_four _ _ _ _ _ _ _ _ _ _ _ one two three (c.write_str-2.ensures.writes three.plain ok)
    (object_text c.args.object.now _ _ (c.as_str.ensures.text ∙ c.uri.ensures.uri) c.hash.ensures)
