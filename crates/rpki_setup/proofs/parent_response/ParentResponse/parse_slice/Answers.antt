use Rattle.std.proofs.lemmas.Result.{err_from_is_err_and}
use Rattle.rpki_xmltext.proofs.Read.{no_document, no_message}
use Rattle.rpki_setup.specs.ParentResponse.{parent_response_in}
use Rattle.rpki_setup.specs.Answers.{cause_of}
use Rattle.rpki_setup.proofs.Causes.{xml_caused}
use Rattle.rpki_setup.proofs.parent_response.ParentResponse.parse_slice.Goals as goal

pub returns-in_err-document : goal.returns-in_err-document
returns-in_err-document c =
    let p = err_from_is_err_and c.from_residual.result c.from_residual.ensures.1 in
    rw (p.1, p.2) (no_document cause_of parent_response_in c.in_err-document.field-0.0 _ c.args.octets.now (xml_caused c.in_err-document.field-0.0) c.in_err-document.ensures)

pub returns-in_err-of_element : goal.returns-in_err-of_element
returns-in_err-of_element c =
    let p = err_from_is_err_and c.from_residual-in_err-of_element.result c.from_residual-in_err-of_element.ensures.1 in
    rw (p.1, p.2) (no_message cause_of parent_response_in c.args.octets.now c.in_ok-document.document c.in_err-of_element.field-0.0 _ (xml_caused c.in_err-of_element.field-0.0) c.in_ok-document.ensures (rw c.as_ref.ensures at c.in_err-of_element.ensures))
