use Rattle.std.proofs.Common.{rules, ◌∙◌}
use Rattle.std.proofs.lemmas.Grind.{put_four}
use Rattle.rpki_publication.proofs.Texts.{publish_text}
use Rattle.rpki_publication.proofs.writing.write_publish.Goals as goal

pub returns : goal.returns
returns g c = λ plain ok.
    let one = c.write_str.ensures.writes plain (search rules) in
    let two = c.write_attribute.ensures one.plain (search rules) in
    let three = c.write_attribute-2.ensures two.plain (search rules) in
    put_four _ _ _ _ _ _ _ _ _ _ _ one two three (c.write_base64.ensures three.plain ok)
    (publish_text c.args.publish.now _ _ _ c.tag_text.ensures (c.as_str.ensures.text ∙ c.uri.ensures) c.content.ensures)
