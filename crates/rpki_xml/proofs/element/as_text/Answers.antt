use Rattle.rpki_xml.proofs.Letters.{utf8}
use Rattle.rpki_xml.proofs.element.as_text.Goals as goal

pub from_utf8_unchecked-requires : goal.from_utf8_unchecked-requires
from_utf8_unchecked-requires c = utf8 c.args.octets.now c.requires
