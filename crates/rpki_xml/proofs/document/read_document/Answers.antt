use Rattle.rpki_xml.specs.DocumentNodes.{root_of_document}
use Rattle.rpki_xml.proofs.Letters.{document_lettered}
use Rattle.rpki_xml.proofs.document.read_document.Goals as goal

pub invariant_of-result : goal.invariant_of-result
invariant_of-result c = rw c.in_ok-new.ensures.ok (c.in_ok-document.ensures.whole, document_lettered c.args.octets.now (root_of_document c.in_ok-document.document) c.in_ok-document.ensures.value)
