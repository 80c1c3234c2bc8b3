-- What is written of a writable message is read as its normal form.
use Rattle.std.proofs.Common.{◌≡◌, ℕ, true, false, List, [], ◌∷◌, Option, Some, None, map, refl, IfSome}
use Rattle.std.specs.Prelude.{codes}
use Rattle.std.specs.List.{AllByRecursion}
use Rattle.rpki_common.specs.Chaining.{◌>>=◌}
use Rattle.rpki_common.specs.Items as items
use Rattle.rpki_xmltext.proofs.Uris.{uri_is}
use Rattle.rpki_text.specs.Uri.{rsync}
use Rattle.rpki_text.proofs.Base64Laws.{base64_content-encode}
use Rattle.rpki_text.proofs.HashLaws.{digest_of_text-again}
use Rattle.rpki_xml.specs.Element.{elements_of}
use Rattle.rpki_xml.specs.Tables.{is_named, only_listed, optional, optional_by, required, given_or_absent, each_of}
use Rattle.rpki_publication.specs.declared.message.Message.{Message}
use Rattle.rpki_publication.specs.declared.message.Message.TheVariants as message
use Rattle.rpki_publication.specs.declared.publish_delta_element.PublishDeltaElement.{PublishDeltaElement}
use Rattle.rpki_publication.specs.declared.publish_delta_element.PublishDeltaElement.TheVariants as change
use Rattle.rpki_publication.specs.declared.query.Query.TheVariants as query
use Rattle.rpki_publication.specs.declared.query_pdu.QueryPdu.{QueryPdu}
use Rattle.rpki_publication.specs.declared.query_pdu.QueryPdu.TheVariants as pdus
use Rattle.rpki_publication.specs.declared.reply.Reply.TheVariants as reply
use Rattle.rpki_publication.specs.declared.report_error_code.ReportErrorCode.{ReportErrorCode}
use Rattle.rpki_publication.specs.declared.report_error_code.ReportErrorCode.TheVariants as code
use Rattle.rpki_publication.specs.Change.{change_element, change_in, publish_in, withdraw_in, list_query_in, query_pdu_element, query_pdu_in, IsWritableChange, IsWritablePdu, normal_change, normal_pdu}
use Rattle.rpki_publication.specs.ListElement.{ListElementFields}
use Rattle.rpki_publication.specs.ListReply.{list_element, list_element_in, IsWritableListElement}
use Rattle.rpki_publication.specs.Message.{element_of, type_in, body_in, query_in, reply_in, success_in, message_of, IsWritable, normal_form}
use Rattle.rpki_publication.specs.Pdu.{query_attributes_in, reply_attributes_in}
use Rattle.rpki_publication.specs.ReportError.{ReportErrorFields, report_error_element, report_error_in, details_in, error_text_in, failed_pdu_in, IsWritableError, normal_error}
use Rattle.rpki_publication.specs.ReportErrorCode.{code_of_text, code_text}

pub code_again : (c : ReportErrorCode) → code_of_text (code_text c) ≡ Some c
unfolding code_of_text
code_again code.XmlError = refl
code_again code.PermissionFailure = refl
code_again code.BadCmsSignature = refl
code_again code.ObjectAlreadyPresent = refl
code_again code.NoObjectPresent = refl
code_again code.NoObjectMatchingHash = refl
code_again code.ConsistencyProblem = refl
code_again code.OtherError = refl

-- ---- elements of a query

change_again : (c : PublishDeltaElement) → IsWritableChange c → change_in (change_element c) ≡ Some (normal_change c)
unfolding change_in publish_in withdraw_in change_element normal_change query_attributes_in only_listed items.only optional optional_by items.at_most_one ◌>>=◌
change_again (change.Publish p) h = rw (uri_is rsync p.uri h.uri, base64_content-encode p.content h.content) refl
change_again (change.Update u) h = rw (uri_is rsync u.uri h.uri, digest_of_text-again u.hash h.hash.0 h.hash.1, base64_content-encode u.content h.content) refl
change_again (change.Withdraw w) h = rw (uri_is rsync w.uri h.uri, digest_of_text-again w.hash h.hash.0 h.hash.1) refl

changes_again : (list : List PublishDeltaElement) → AllByRecursion IsWritableChange list → each_of change_in (elements_of change_element list) ≡ Some (map normal_change list)
unfolding each_of ◌>>=◌
changes_again [] h = refl
changes_again (c ∷ list) h = rw (change_again c h.0, changes_again list h.1) refl

-- a change's element is no `list`
no_list : (c : PublishDeltaElement) → is_named (codes "list") (change_element c).head ≡ false
unfolding change_element
no_list (change.Publish p) = refl
no_list (change.Update u) = refl
no_list (change.Withdraw w) = refl

pdu_again : (pdu : QueryPdu) → IsWritablePdu pdu → query_pdu_in (query_pdu_element pdu) ≡ Some (normal_pdu pdu)
unfolding query_pdu_in query_pdu_element normal_pdu list_query_in query_attributes_in only_listed items.only optional optional_by items.at_most_one ◌>>=◌
pdu_again pdus.List h = refl
pdu_again (pdus.PublishDeltaElement c) h = rw (no_list c, change_again c h) refl

-- ---- elements of a reply

object_again : (x : ListElementFields) → IsWritableListElement x → list_element_in (list_element x) ≡ Some x
unfolding list_element_in reply_attributes_in only_listed items.only optional optional_by items.at_most_one ◌>>=◌
object_again x h = rw (uri_is rsync x.uri h.uri, digest_of_text-again x.hash h.hash.0 h.hash.1) refl

objects_again : (list : List ListElementFields) → AllByRecursion IsWritableListElement list → each_of list_element_in (elements_of list_element list) ≡ Some list
unfolding each_of ◌>>=◌
objects_again [] h = refl
objects_again (x ∷ list) h = rw (object_again x h.0, objects_again list h.1) refl

error_again_of : (c : ReportErrorCode) (tag text : Option (List ℕ)) (pdu : Option QueryPdu) → IfSome pdu IsWritablePdu
    → report_error_in (report_error_element (record { error_code = c; tag = tag; error_text = text; failed_pdu = pdu })) ≡ Some (normal_error (record { error_code = c; tag = tag; error_text = text; failed_pdu = pdu }))
unfolding report_error_in report_error_element normal_error details_in error_text_in failed_pdu_in items.the_last reply_attributes_in only_listed items.only optional optional_by items.at_most_one ◌>>=◌
error_again_of c None text None h = rw (code_again c) refl
error_again_of c (Some t) text None h = rw (code_again c) refl
error_again_of c None text (Some pdu) h = rw (code_again c, pdu_again pdu h) refl
error_again_of c (Some t) text (Some pdu) h = rw (code_again c, pdu_again pdu h) refl

error_again : (r : ReportErrorFields) → IsWritableError r → report_error_in (report_error_element r) ≡ Some (normal_error r)
error_again r h = error_again_of r.error_code r.tag r.error_text r.failed_pdu h.failed_pdu

errors_again : (list : List ReportErrorFields) → AllByRecursion IsWritableError list → each_of report_error_in (elements_of report_error_element list) ≡ Some (map normal_error list)
unfolding each_of ◌>>=◌
errors_again [] h = refl
errors_again (r ∷ list) h = rw (error_again r h.0, errors_again list h.1) refl

no_success : (r : ReportErrorFields) → is_named (codes "success") (report_error_element r).head ≡ false
unfolding report_error_element
no_success r = refl

is_report : (r : ReportErrorFields) → is_named (codes "report_error") (report_error_element r).head ≡ true
unfolding report_error_element
is_report r = refl

-- ---- messages

pub message_again : (m : Message) → IsWritable m → message_of (element_of m) ≡ Some (normal_form m)
unfolding message_of element_of normal_form type_in body_in query_in list_query_in query_attributes_in reply_in success_in reply_attributes_in only_listed optional optional_by required given_or_absent items.only items.at_most_one items.the_one each_of ◌>>=◌
message_again (message.Query query.List) h = refl
message_again (message.Query (query.Delta [])) h = refl
message_again (message.Query (query.Delta (c ∷ list))) h = rw (no_list c, changes_again (c ∷ list) h) refl
message_again (message.Reply (reply.List [])) h = refl
message_again (message.Reply (reply.List (x ∷ list))) h = rw (objects_again (x ∷ list) h) refl
message_again (message.Reply reply.Success) h = refl
message_again (message.Reply (reply.ErrorReply [])) h = absurd (h.0 refl)
message_again (message.Reply (reply.ErrorReply (r ∷ list))) h = rw (no_success r, is_report r, errors_again (r ∷ list) h.1) refl

-- ---- the normal form

change_twice : (c : PublishDeltaElement) → normal_change (normal_change c) ≡ normal_change c
unfolding normal_change
change_twice (change.Publish p) = refl
change_twice (change.Update u) = refl
change_twice (change.Withdraw w) = refl

changes_twice : (list : List PublishDeltaElement) → map normal_change (map normal_change list) ≡ map normal_change list
changes_twice [] = refl
changes_twice (c ∷ list) = rw (change_twice c, changes_twice list) refl

error_twice_of : (c : ReportErrorCode) (tag text : Option (List ℕ)) (pdu : Option QueryPdu)
    → normal_error (normal_error (record { error_code = c; tag = tag; error_text = text; failed_pdu = pdu })) ≡ normal_error (record { error_code = c; tag = tag; error_text = text; failed_pdu = pdu })
unfolding normal_error normal_pdu
error_twice_of c tag text None = refl
error_twice_of c tag text (Some pdus.List) = refl
error_twice_of c tag text (Some (pdus.PublishDeltaElement x)) = rw (change_twice x) refl

errors_twice : (list : List ReportErrorFields) → map normal_error (map normal_error list) ≡ map normal_error list
errors_twice [] = refl
errors_twice (r ∷ list) = rw (error_twice_of r.error_code r.tag r.error_text r.failed_pdu, errors_twice list) refl

pub normal_twice : (m : Message) → normal_form (normal_form m) ≡ normal_form m
unfolding normal_form
normal_twice (message.Query query.List) = refl
normal_twice (message.Query (query.Delta list)) = rw (changes_twice list) refl
normal_twice (message.Reply (reply.List list)) = refl
normal_twice (message.Reply reply.Success) = refl
normal_twice (message.Reply (reply.ErrorReply list)) = rw (errors_twice list) refl
