use Rattle.std.proofs.Common.{ap, ◌∙◌, Some}
use Rattle.std.specs.Option.{option_copied}
use Rattle.rpki_xml.specs.Tables.{is_called}
use Rattle.rpki_xml.specs.Views.{attributes_in}
use Rattle.rpki_xml.proofs.Found.{optional_octets}
use Rattle.rpki_xml.proofs.element.ElementRef.optional.Goals as goal

pub as_text-requires : goal.as_text-requires
as_text-requires c =
    let e = rw (c.attributes.ensures c.self.inside.source.now, c.as_bytes.ensures.value) at c.in_ok-optional_among.ensures in
    optional_octets (is_called c.args.local.now) (attributes_in c.self.inside.source.now c.self.inside.head.now.rest) c.in-Some.value.now
    c.self.invariant.0.attributes (e ∙ ap (λ o. Some (option_copied o)) c.in-Some.is)
