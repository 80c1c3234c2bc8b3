use Rattle.rpki_xml.specs.Kept.{name_from}
use Rattle.rpki_xml.proofs.Letters.{local_octets}
use Rattle.rpki_xml.proofs.element.ElementRef.local.Goals as goal

pub as_text-requires : goal.as_text-requires
as_text-requires c =
    rw (c.local_of.ensures, c.name_from.ensures) (local_octets (name_from c.self.inside.source.now c.self.inside.head.now.name) c.self.invariant.0.name)
