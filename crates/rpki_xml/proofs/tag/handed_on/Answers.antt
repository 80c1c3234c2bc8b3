use Rattle.std.proofs.Common.{not, ap, ◌∙◌, rules}
use Rattle.std.proofs.lemmas.Fn.{filter_same}
use Rattle.rpki_xml.specs.Content.{is_declaration}
use Rattle.rpki_xml.specs.Kept.{attribute_of, attributes_of}
use Rattle.rpki_xml.proofs.Places.{attributes-filter}
use Rattle.rpki_xml.proofs.tag.handed_on.Goals as goal

pub returns : goal.returns
returns c =
    let kept = filter_same _ (λ a. not (is_declaration (attribute_of c.args.source.now a))) _ (λ x b f' k. search rules) _ _ c.retain.ensures.filtered in
    ap (attributes_of c.args.source.now) (c.shrink_to_fit.ensures.items ∙ kept) ∙ attributes-filter c.args.source.now (λ a. not (is_declaration a)) c.args.attributes.items
