use Rattle.std.proofs.Common.{rules}
use Rattle.std.proofs.lemmas.Grind.{put_four}
use Rattle.rpki_setup.proofs.Shown.{publisher_text}
use Rattle.rpki_setup.proofs.publisher_request.PublisherRequestDisplay.fmt.Goals as goal

pub returns-clause-writes : goal.returns-clause-writes
returns-clause-writes g c = λ plain ok.
    let one = c.write_start.ensures plain (search rules) in
    let two = c.write_attribute.ensures one.plain (search rules) in
    let three = c.write_optional.ensures two.plain (search rules) in
    rw (← c.self.view_is)
    (put_four _ _ _ _ _ _ _ _ _ _ _ one two three (c.write_inside.ensures three.plain ok)
    (publisher_text (record { id_cert = c.self.inside.id_cert; publisher_handle = c.self.inside.publisher_handle; tag = c.self.inside.tag }) c.as_str.result.now _ c.as_str.ensures c.lent.ensures))
