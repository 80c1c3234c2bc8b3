use Rattle.std.proofs.Output.{has_written_of_eq}
use Rattle.std.proofs.Math.Utf8.{encode}
use Rattle.rpki_xml.specs.Spelling.{spelled_text}
use Rattle.rpki_xmltext.proofs.Characters.{other_in_text}
use Rattle.rpki_xmltext.proofs.printing.write_text_character.Goals as goal

pub returns-then-c-eq38 : goal.returns-then-c-eq38
unfolding spelled_text encode
returns-then-c-eq38 g c = λ plain ok. rw c.if-c-eq38.true (c.write_str.ensures.writes plain ok)

pub returns-then-c-eq60 : goal.returns-then-c-eq60
unfolding spelled_text encode
returns-then-c-eq60 g c = λ plain ok. rw c.if-c-eq60.true (c.write_str-then-c-eq60.ensures.writes plain ok)

pub returns-then-c-eq62 : goal.returns-then-c-eq62
unfolding spelled_text encode
returns-then-c-eq62 g c = λ plain ok. rw c.if-c-eq62.true (c.write_str-then-c-eq62.ensures.writes plain ok)

pub returns : goal.returns
returns g c = λ plain ok.
    has_written_of_eq _ _ _ _ _ (other_in_text c.args.c c.if-c-eq38.false c.if-c-eq60.false c.if-c-eq62.false) (c.write_char.ensures.writes plain ok)
