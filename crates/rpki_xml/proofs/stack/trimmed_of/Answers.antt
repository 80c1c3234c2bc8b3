use Rattle.std.proofs.Common.{◌∙◌, ap}
use Rattle.rpki_xml.specs.Content.{without_white}
use Rattle.rpki_xml.specs.Kept.{kept_text}
use Rattle.rpki_xml.proofs.Backs.{trimmed_placed}
use Rattle.rpki_xml.proofs.stack.trimmed_of.Goals as goal

pub part-requires : goal.part-requires
part-requires c =
    trimmed_placed (kept_text c.args.source.now c.args.text.now) c.without_leading-begun.result.now c.without_trailing-trimmed.result.now c.split_at.result.1.now (c.without_leading-begun.ensures ∙ ap without_white c.octets.ensures) c.without_trailing-trimmed.ensures.value c.split_at.ensures.back
