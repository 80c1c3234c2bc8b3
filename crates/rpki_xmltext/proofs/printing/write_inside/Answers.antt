use Rattle.std.proofs.Common.{rules, sym, ◌∙◌}
use Rattle.std.proofs.Output.{has_written_of_eq}
use Rattle.std.proofs.lemmas.Grind.{put_three}
use Rattle.rpki_xmltext.proofs.Inside.{nothing_inside, something_inside}
use Rattle.rpki_xmltext.proofs.printing.write_inside.Goals as goal

pub returns-then-is_empty : goal.returns-then-is_empty
returns-then-is_empty g c = λ plain ok.
    has_written_of_eq _ _ _ _ _ (nothing_inside c.args.name.now c.args.text.now (sym c.is_empty.ensures ∙ c.if-is_empty.true)) (c.write_str.ensures.writes plain ok)

pub returns : goal.returns
returns g c = λ plain ok.
    let one = c.write_str-2.ensures.writes plain (search rules) in
    let two = c.write_text.ensures one.plain (search rules) in
    put_three _ _ _ _ _ _ _ _ _ one two (c.write_end.ensures two.plain ok)
    (something_inside c.args.name.now c.args.text.now (sym c.is_empty.ensures ∙ c.if-is_empty.false))
