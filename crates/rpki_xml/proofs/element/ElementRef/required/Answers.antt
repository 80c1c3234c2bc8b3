use Rattle.rpki_xml.specs.Tables.{is_called}
use Rattle.rpki_xml.specs.Views.{attributes_in}
use Rattle.rpki_xml.proofs.Found.{required_octets}
use Rattle.rpki_xml.proofs.element.ElementRef.required.Goals as goal

pub as_text-requires : goal.as_text-requires
as_text-requires c =
    required_octets (is_called c.args.local.now) (attributes_in c.self.inside.source.now c.self.inside.head.now.rest) c.in_ok-value.value.now
    c.self.invariant.0.attributes (rw (c.attributes.ensures c.self.inside.source.now, c.as_bytes.ensures.value) at c.in_ok-value.ensures)
