use Rattle.rpki_xml.proofs.Backs.{back_next}
use Rattle.rpki_xml.proofs.lexing.piece_at.Goals as goal

pub markup_at-requires : goal.markup_at-requires
markup_at-requires c = back_next c.args.source.now c.args.b.now c.requires
