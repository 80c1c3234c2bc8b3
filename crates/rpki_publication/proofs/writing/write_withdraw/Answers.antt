use Rattle.std.proofs.Common.{rules, ◌∙◌}
use Rattle.std.proofs.lemmas.Grind.{put_five}
use Rattle.rpki_publication.proofs.Texts.{withdraw_text}
use Rattle.rpki_publication.proofs.writing.write_withdraw.Goals as goal

pub returns : goal.returns
returns g c = λ plain ok.
    let one = c.write_str.ensures.writes plain (search rules) in
    let two = c.write_attribute.ensures one.plain (search rules) in
    let three = c.write_attribute-2.ensures two.plain (search rules) in
    let four = c.write_hash.ensures three.plain (search rules) in
    put_five _ _ _ _ _ _ _ _ _ _ _ _ _ one two three four (c.write_str-2.ensures.writes four.plain ok)
    (withdraw_text c.args.withdraw.now _ _ _ c.tag_text.ensures (c.as_str.ensures.text ∙ c.uri.ensures) c.hash.ensures)
