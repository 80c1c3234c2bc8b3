use Rattle.std.proofs.Common.{rules, sym, ◌∙◌}
use Rattle.std.specs.Prelude.{codes}
use Rattle.std.proofs.lemmas.Grind.{put_two, put_four}
use Rattle.rpki_publication.specs.Message.{query_elements, element_of, text_of}
use Rattle.rpki_publication.proofs.Texts.{bare_text, root_text}
use Rattle.rpki_publication.proofs.writing.write_whole_query.Goals as goal

pub returns-then-has_no_element : goal.returns-then-has_no_element
unfolding text_of element_of
returns-then-has_no_element g c = λ plain ok.
    let one = c.write_start.ensures plain (search rules) in
    put_two _ _ _ _ _ _ _ one (c.write_str.ensures.writes one.plain ok) (bare_text (codes "query") (query_elements c.args.query.now) (sym c.has_no_element.ensures ∙ c.if-has_no_element.true))

pub returns : goal.returns
unfolding text_of element_of
returns g c = λ plain ok.
    let one = c.write_start.ensures plain (search rules) in
    let two = c.write_str-2.ensures.writes one.plain (search rules) in
    let three = c.write_query.ensures two.plain (search rules) in
    put_four _ _ _ _ _ _ _ _ _ _ _ one two three (c.write_str-3.ensures.writes three.plain ok) (root_text (codes "query") (query_elements c.args.query.now) (sym c.has_no_element.ensures ∙ c.if-has_no_element.false))
