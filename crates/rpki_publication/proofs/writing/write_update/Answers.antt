use Rattle.std.proofs.Common.{rules, ◌∙◌}
use Rattle.std.proofs.lemmas.Grind.{put_five}
use Rattle.rpki_publication.proofs.Texts.{update_text}
use Rattle.rpki_publication.proofs.writing.write_update.Goals as goal

pub returns : goal.returns
returns g c = λ plain ok.
    let one = c.write_str.ensures.writes plain (search rules) in
    let two = c.write_attribute.ensures one.plain (search rules) in
    let three = c.write_attribute-2.ensures two.plain (search rules) in
    let four = c.write_hash.ensures three.plain (search rules) in
    put_five _ _ _ _ _ _ _ _ _ _ _ _ _ one two three four (c.write_base64.ensures four.plain ok)
    (update_text c.args.update.now _ _ _ _ c.tag_text.ensures (c.as_str.ensures.text ∙ c.uri.ensures) c.hash.ensures c.content.ensures)
