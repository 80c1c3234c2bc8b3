use Rattle.std.proofs.Common.{rules}
use Rattle.rpki_common.specs.Chaining.{◌>>=◌}
use Rattle.rpki_xml.specs.Lexing.{attribute_at}
use Rattle.std.proofs.Common.{sym}
use Rattle.std.specs.Prelude.{codes}
use Rattle.rpki_xml.proofs.Backs.{back_name, back_same, back_white, behind_front, behind_name, whole_name}
use Rattle.rpki_xml.proofs.lexing.attribute_at.Goals as goal

pub returns-in_default-clause-value : goal.returns-in_default-clause-value
unfolding attribute_at ◌>>=◌
returns-in_default-clause-value c = search rules

pub returns-in_default-behind-clause-value : goal.returns-in_default-behind-clause-value
unfolding attribute_at ◌>>=◌
returns-in_default-behind-clause-value c = search rules

pub returns-in_err-value-clause-value : goal.returns-in_err-value-clause-value
unfolding attribute_at ◌>>=◌
returns-in_err-value-clause-value c = search rules

pub returns-clause-value : goal.returns-clause-value
unfolding attribute_at ◌>>=◌
returns-clause-value c = search rules

pub quoted_at-requires : goal.quoted_at-requires
quoted_at-requires c =
    let from = back_same _ _ _ (back_white c.args.source.now c.args.b.now c.requires) (sym c.past_white.ensures.value) in
    let after = back_same _ _ _ (back_white c.args.source.now c.in-Some.behind_name.now (behind_name c.args.source.now c.past_white.result.now c.in-Some.name.now c.in-Some.behind_name.now from (sym c.in-Some.ensures.value))) (sym c.past_white-2.ensures.value) in
    back_same _ _ _ (back_white c.args.source.now c.in-Some-behind.rest.now (behind_front c.args.source.now c.past_white-2.result.now (codes "=") c.in-Some-behind.rest.now after c.in-Some-behind.ensures.value)) (sym c.past_white-3.ensures.value)

pub name_place-requires-clause-back : goal.name_place-requires-clause-back
name_place-requires-clause-back c =
    let from = back_same _ _ _ (back_white c.args.source.now c.args.b.now c.requires) (sym c.past_white.ensures.value) in
    back_name c.args.source.now c.past_white.result.now c.in-Some.name.now c.in-Some.behind_name.now from (sym c.in-Some.ensures.value)

pub name_place-requires-clause-whole : goal.name_place-requires-clause-whole
name_place-requires-clause-whole c = whole_name c.past_white.result.now c.in-Some.name.now c.in-Some.behind_name.now (sym c.in-Some.ensures.value)
