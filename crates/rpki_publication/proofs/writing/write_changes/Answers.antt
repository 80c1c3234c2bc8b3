use Rattle.std.proofs.Common.{◌++◌, rules}
use Rattle.std.proofs.Output.{has_written_append}
use Rattle.rpki_xml.specs.Spelling.{spelled}
use Rattle.rpki_publication.specs.Change.{change_element}
use Rattle.rpki_xmltext.proofs.Elements.{loop_step}
use Rattle.rpki_publication.proofs.writing.write_changes.Goals as goal

pub items-preserved : goal.items-preserved
items-preserved g c = λ plain.
    let now = c.items.invariant plain in (
      now.0 ++ spelled (change_element c.in-Some.item.now),
      has_written_append _ _ _ _ _ _ now.1 (c.write_change.ensures now.1.plain (search rules)),
      loop_step change_element c.items.left.now c.in-Some.more.now c.in-Some.item.now now.0 _ c.in-Some.ensures.cases.0 now.2,
    )
