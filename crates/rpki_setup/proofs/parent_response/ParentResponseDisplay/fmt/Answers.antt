use Rattle.std.proofs.Common.{rules}
use Rattle.std.proofs.lemmas.Grind.{put_six}
use Rattle.rpki_setup.proofs.Shown.{parent_text}
use Rattle.rpki_setup.proofs.parent_response.ParentResponseDisplay.fmt.Goals as goal

pub returns-clause-writes : goal.returns-clause-writes
returns-clause-writes g c = λ plain ok.
    let one = c.write_start.ensures plain (search rules) in
    let two = c.write_attribute.ensures one.plain (search rules) in
    let three = c.write_attribute-2.ensures two.plain (search rules) in
    let four = c.write_attribute-3.ensures three.plain (search rules) in
    let five = c.write_optional.ensures four.plain (search rules) in
    rw (← c.self.view_is)
    (put_six _ _ _ _ _ _ _ _ _ _ _ _ _ _ _ one two three four five (c.write_inside.ensures five.plain ok)
    (parent_text (record { id_cert = c.self.inside.id_cert; parent_handle = c.self.inside.parent_handle; child_handle = c.self.inside.child_handle; service_uri = c.self.inside.service_uri; tag = c.self.inside.tag }) c.as_str.result.now c.as_str-2.result.now c.as_str-3.result.now _ c.as_str.ensures c.as_str-2.ensures c.as_str-3.ensures c.lent.ensures))
