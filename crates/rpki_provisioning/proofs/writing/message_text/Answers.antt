use Rattle.std.proofs.Common.{◌∙◌, ap}
use Rattle.rpki_xml.proofs.Drafts.{done_is}
use Rattle.rpki_xml.specs.Draft.{with_element}
use Rattle.rpki_provisioning.specs.Message.{element_of, text_of}
use Rattle.rpki_provisioning.proofs.writing.message_text.Goals as goal

pub returns : goal.returns
unfolding text_of
returns c =
    let e = element_of c.args.message.now in
    c.into_string.ensures ∙ done_is e c.write_message.new.writer (c.in_ok-write_message.ensures ∙ ap (with_element e) c.new-writer.ensures)
