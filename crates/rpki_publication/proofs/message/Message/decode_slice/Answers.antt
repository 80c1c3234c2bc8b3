use Rattle.std.proofs.lemmas.Result.{err_from_is_err_and}
use Rattle.rpki_xmltext.proofs.Read.{no_document, no_message}
use Rattle.rpki_publication.specs.Message.{message_of}
use Rattle.rpki_publication.specs.Answers.{cause_of}
use Rattle.rpki_publication.proofs.Causes.{xml_caused}
use Rattle.rpki_publication.proofs.message.Message.decode_slice.Goals as goal

pub returns-in_err-document : goal.returns-in_err-document
returns-in_err-document c =
    let p = err_from_is_err_and c.from_residual.result c.from_residual.ensures.1 in
    rw (p.1, p.2) (no_document cause_of message_of c.in_err-document.field-0.0 _ c.args.octets.now (xml_caused c.in_err-document.field-0.0) c.in_err-document.ensures)

pub returns-in_err-message_in : goal.returns-in_err-message_in
returns-in_err-message_in c =
    let p = err_from_is_err_and c.from_residual-in_err-message_in.result c.from_residual-in_err-message_in.ensures.1 in
    rw (p.1, p.2) (no_message cause_of message_of c.args.octets.now c.in_ok-document.document c.in_err-message_in.field-0.0 _ (xml_caused c.in_err-message_in.field-0.0) c.in_ok-document.ensures (rw c.as_ref.ensures at c.in_err-message_in.ensures))
