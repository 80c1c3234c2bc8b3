use Rattle.std.proofs.Common.{refl, ap, rules, ◌∙◌}
use Rattle.std.proofs.lemmas.Grind.{put_two, put_six}
use Rattle.rpki_publication.specs.ReportErrorCode.{code_text}
use Rattle.rpki_publication.proofs.Texts.{error_text}
use Rattle.rpki_publication.proofs.writing.write_error.Goals as goal

pub returns : goal.returns
returns g c = λ plain ok.
    let one = c.write_str.ensures.writes plain (search rules) in
    let two = c.write_attribute.ensures one.plain (search rules) in
    let three = c.write_optional.ensures two.plain (search rules) in
    let four = c.write_str-2.ensures.writes three.plain (search rules) in
    let five = c.write_inside.ensures four.plain (search rules) in
    let six = c.write_failed.ensures five.plain (search rules) in
    let last = put_two _ _ _ _ _ _ _ six (c.write_end.ensures six.plain ok) refl in
    put_six _ _ _ _ _ _ _ _ _ _ _ _ _ _ _ one two three four five last
    (error_text c.args.error.now _ _ _ _ (c.as_str.ensures ∙ ap code_text c.error_code.ensures) (c.lent.ensures ∙ c.tag_text.ensures) c.shown_text.ensures c.failed_pdu.ensures)
