use Rattle.rpki_xml.proofs.Backs.{back_next}
use Rattle.rpki_xml.proofs.lexing.quoted_at.Goals as goal

pub value_in-requires : goal.value_in-requires
value_in-requires c = back_next c.args.source.now c.args.b.now c.requires
