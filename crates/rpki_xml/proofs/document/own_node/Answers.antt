use Rattle.rpki_xml.proofs.Backs.{whole_back}
use Rattle.rpki_xml.proofs.document.own_node.Goals as goal

pub name_place-requires-clause-back : goal.name_place-requires-clause-back
name_place-requires-clause-back c = whole_back c.args.source.now
