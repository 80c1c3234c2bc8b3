use Rattle.std.proofs.Common.{rules}
use Rattle.rpki_common.specs.Chaining.{◌>>=◌}
use Rattle.rpki_xml.specs.Lexing.{tag_at}
use Rattle.std.proofs.Common.{sym}
use Rattle.rpki_xml.proofs.Backs.{back_name, behind_name, whole_name}
use Rattle.rpki_xml.proofs.lexing.tag_at.Goals as goal

pub returns-in_default-clause-value : goal.returns-in_default-clause-value
unfolding tag_at ◌>>=◌
returns-in_default-clause-value c = search rules

pub returns-in_err-attributes-clause-value : goal.returns-in_err-attributes-clause-value
unfolding tag_at ◌>>=◌
returns-in_err-attributes-clause-value c = search rules

pub returns-in-Some-behind-clause-value : goal.returns-in-Some-behind-clause-value
unfolding tag_at ◌>>=◌
returns-in-Some-behind-clause-value c = search rules

pub returns-in-None-clause-value : goal.returns-in-None-clause-value
unfolding tag_at ◌>>=◌
returns-in-None-clause-value c = search rules

pub returns-in-Some-behind-2-clause-value : goal.returns-in-Some-behind-2-clause-value
unfolding tag_at ◌>>=◌
returns-in-Some-behind-2-clause-value c = search rules

pub name_place-requires-clause-back : goal.name_place-requires-clause-back
name_place-requires-clause-back c = back_name c.args.source.now c.args.b.now c.in-Some.name.now c.in-Some.rest.now c.requires (sym c.in-Some.ensures.value)

pub name_place-requires-clause-whole : goal.name_place-requires-clause-whole
name_place-requires-clause-whole c = whole_name c.args.b.now c.in-Some.name.now c.in-Some.rest.now (sym c.in-Some.ensures.value)

pub attributes_at-requires : goal.attributes_at-requires
attributes_at-requires c = behind_name c.args.source.now c.args.b.now c.in-Some.name.now c.in-Some.rest.now c.requires (sym c.in-Some.ensures.value)
