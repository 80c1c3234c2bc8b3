-- The elements that writable messages are written as are plain: they are read again.
use Rattle.std.proofs.Common.{◌≡◌, ℕ, List, [], ◌∷◌, Option, Some, None, refl, IfSome}
use Rattle.std.specs.Prelude.{codes}
use Rattle.std.specs.List.{AllByRecursion}
use Rattle.base64.specs.Engines.{standard}
use Rattle.base64.specs.GeneralPurpose.{encode_of}
use Rattle.rpki_xmltext.proofs.Base64s.{encode-trimmed, encode-octets}
use Rattle.rpki_xmltext.proofs.Plain.{attribute_plain, uri_plain, leaf_plain}
use Rattle.rpki_xmltext.specs.Parts.{attribute, leaf}
use Rattle.rpki_text.specs.Uri.{rsync, fault_of}
use Rattle.rpki_xml.specs.Content.{is_declaration, trimmed}
use Rattle.rpki_xml.specs.Element.{Elements, none, first, alone, elements_of}
use Rattle.rpki_xml.specs.Lettered.{AreOctets}
use Rattle.rpki_xml.specs.PlainElement.{IsPlainAttribute, IsPlainHead, ArePlain}
use Rattle.rpki_xml.proofs.Octets.{written_is_read}
use Rattle.rpki_publication.specs.declared.message.Message.{Message}
use Rattle.rpki_publication.specs.declared.message.Message.TheVariants as message
use Rattle.rpki_publication.specs.declared.publish_delta_element.PublishDeltaElement.{PublishDeltaElement}
use Rattle.rpki_publication.specs.declared.publish_delta_element.PublishDeltaElement.TheVariants as change
use Rattle.rpki_publication.specs.declared.query.Query.TheVariants as query
use Rattle.rpki_publication.specs.declared.query_pdu.QueryPdu.{QueryPdu}
use Rattle.rpki_publication.specs.declared.query_pdu.QueryPdu.TheVariants as pdus
use Rattle.rpki_publication.specs.declared.reply.Reply.TheVariants as reply
use Rattle.rpki_publication.specs.declared.report_error_code.ReportErrorCode.{ReportErrorCode}
use Rattle.rpki_publication.specs.declared.report_error_code.ReportErrorCode.TheVariants as code
use Rattle.rpki_publication.specs.Change.{change_element, query_pdu_element, IsWritableChange, IsWritablePdu}
use Rattle.rpki_publication.specs.ListElement.{ListElementFields}
use Rattle.rpki_publication.specs.ListReply.{list_element, IsWritableListElement}
use Rattle.rpki_publication.specs.Message.{root_element, element_of, text_of, Reads, IsWritable, normal_form}
use Rattle.rpki_publication.specs.Publish.{tag_text}
use Rattle.rpki_publication.specs.ReportError.{ReportErrorFields, report_error_element, failed_pdu_elements, shown_text, IsWritableError}
use Rattle.rpki_publication.specs.ReportErrorCode.{code_text, default_text}
use Rattle.rpki_publication.proofs.Again.{message_again}
use Rattle.rpki_publication.proofs.Digits.{digest_octets}

tag_octets : (tag : Option (List ℕ)) → IfSome tag AreOctets → AreOctets (tag_text tag)
tag_octets None h = refl
tag_octets (Some tag) h = h

tag_plain : (tag : Option (List ℕ)) → IfSome tag AreOctets → IsPlainAttribute (attribute (codes "tag") (tag_text tag))
unfolding is_declaration
tag_plain tag h = attribute_plain (codes "tag") (tag_text tag) (record { lawful = refl; octets = refl; plain = refl }) refl (tag_octets tag h)

rsync_plain : (uri : List ℕ) → fault_of rsync uri ≡ None → IsPlainAttribute (attribute (codes "uri") uri)
unfolding is_declaration
rsync_plain uri h = uri_plain rsync (codes "uri") uri (record { lawful = refl; octets = refl; plain = refl }) refl h

hash_plain : (hash : List ℕ) → AreOctets hash → IsPlainAttribute (attribute (codes "hash") hash)
unfolding is_declaration
hash_plain hash h = attribute_plain (codes "hash") hash (record { lawful = refl; octets = refl; plain = refl }) refl h

-- ---- elements of a query

change_plain : (c : PublishDeltaElement) (rest : Elements) → IsWritableChange c → ArePlain rest → ArePlain (first (change_element c).head (change_element c).children rest)
unfolding change_element trimmed
change_plain (change.Publish p) rest h r = (
  leaf_plain (codes "publish") _ (encode_of standard p.content) (record { lawful = refl; octets = refl; plain = refl }) (tag_plain p.tag h.tag, (rsync_plain p.uri h.uri, tt)) refl (encode-trimmed p.content) (encode-octets p.content h.content),
  ((λ e. absurd cc), (tt, r)),
)
change_plain (change.Update u) rest h r = (
  leaf_plain (codes "publish") _ (encode_of standard u.content) (record { lawful = refl; octets = refl; plain = refl }) (tag_plain u.tag h.tag, (rsync_plain u.uri h.uri, (hash_plain _ (digest_octets u.hash h.hash), tt))) refl (encode-trimmed u.content) (encode-octets u.content h.content),
  ((λ e. absurd cc), (tt, r)),
)
change_plain (change.Withdraw w) rest h r = (
  leaf_plain (codes "withdraw") _ [] (record { lawful = refl; octets = refl; plain = refl }) (tag_plain w.tag h.tag, (rsync_plain w.uri h.uri, (hash_plain _ (digest_octets w.hash h.hash), tt))) refl refl refl,
  ((λ e. refl), (tt, r)),
)

changes_plain : (list : List PublishDeltaElement) → AllByRecursion IsWritableChange list → ArePlain (elements_of change_element list)
changes_plain [] h = tt
changes_plain (c ∷ list) h = change_plain c (elements_of change_element list) h.0 (changes_plain list h.1)

list_plain : ArePlain (alone (leaf (codes "list") [] []))
unfolding trimmed
list_plain = (leaf_plain (codes "list") [] [] (record { lawful = refl; octets = refl; plain = refl }) tt refl refl refl, ((λ e. refl), (tt, tt)))

pdu_plain : (pdu : QueryPdu) → IsWritablePdu pdu → ArePlain (alone (query_pdu_element pdu))
unfolding query_pdu_element
pdu_plain pdus.List h = list_plain
pdu_plain (pdus.PublishDeltaElement c) h = change_plain c none h tt

-- ---- elements of a reply

object_plain : (x : ListElementFields) → IsWritableListElement x → IsPlainHead (list_element x).head
unfolding trimmed
object_plain x h = leaf_plain (codes "list") _ [] (record { lawful = refl; octets = refl; plain = refl }) (rsync_plain x.uri h.uri, (hash_plain _ (digest_octets x.hash h.hash), tt)) refl refl refl

objects_plain : (list : List ListElementFields) → AllByRecursion IsWritableListElement list → ArePlain (elements_of list_element list)
objects_plain [] h = tt
objects_plain (x ∷ list) h = (object_plain x h.0, ((λ e. refl), (tt, objects_plain list h.1)))

success_plain : ArePlain (alone (leaf (codes "success") [] []))
unfolding trimmed
success_plain = (leaf_plain (codes "success") [] [] (record { lawful = refl; octets = refl; plain = refl }) tt refl refl refl, ((λ e. refl), (tt, tt)))

code_octets : (c : ReportErrorCode) → AreOctets (code_text c)
code_octets code.XmlError = refl
code_octets code.PermissionFailure = refl
code_octets code.BadCmsSignature = refl
code_octets code.ObjectAlreadyPresent = refl
code_octets code.NoObjectPresent = refl
code_octets code.NoObjectMatchingHash = refl
code_octets code.ConsistencyProblem = refl
code_octets code.OtherError = refl

pub default_octets : (c : ReportErrorCode) → AreOctets (default_text c)
default_octets code.XmlError = refl
default_octets code.PermissionFailure = refl
default_octets code.BadCmsSignature = refl
default_octets code.ObjectAlreadyPresent = refl
default_octets code.NoObjectPresent = refl
default_octets code.NoObjectMatchingHash = refl
default_octets code.ConsistencyProblem = refl
default_octets code.OtherError = refl

pub default_trimmed : (c : ReportErrorCode) → trimmed (default_text c) ≡ default_text c
unfolding trimmed
default_trimmed code.XmlError = refl
default_trimmed code.PermissionFailure = refl
default_trimmed code.BadCmsSignature = refl
default_trimmed code.ObjectAlreadyPresent = refl
default_trimmed code.NoObjectPresent = refl
default_trimmed code.NoObjectMatchingHash = refl
default_trimmed code.ConsistencyProblem = refl
default_trimmed code.OtherError = refl

shown_octets : (c : ReportErrorCode) (text : Option (List ℕ)) → IfSome text AreOctets → AreOctets (shown_text c text)
shown_octets c None h = default_octets c
shown_octets c (Some text) h = h

shown_trimmed : (c : ReportErrorCode) (text : Option (List ℕ)) → IfSome text (λ t. trimmed t ≡ t) → trimmed (shown_text c text) ≡ shown_text c text
shown_trimmed c None h = default_trimmed c
shown_trimmed c (Some text) h = h

failed_plain : (pdu : Option QueryPdu) → IfSome pdu IsWritablePdu → ArePlain (failed_pdu_elements pdu)
unfolding trimmed
failed_plain None h = tt
failed_plain (Some pdu) h = (leaf_plain (codes "failed_pdu") [] [] (record { lawful = refl; octets = refl; plain = refl }) tt refl refl refl, ((λ e. refl), (pdu_plain pdu h, tt)))

code_plain : (c : ReportErrorCode) → IsPlainAttribute (attribute (codes "error_code") (code_text c))
unfolding is_declaration
code_plain c = attribute_plain (codes "error_code") (code_text c) (record { lawful = refl; octets = refl; plain = refl }) refl (code_octets c)

error_head : (c : ReportErrorCode) (tag text : Option (List ℕ)) (pdu : Option QueryPdu) → IfSome tag AreOctets → IsPlainHead (report_error_element (record { error_code = c; tag = tag; error_text = text; failed_pdu = pdu })).head
unfolding report_error_element trimmed
error_head c None text pdu h = leaf_plain (codes "report_error") _ [] (record { lawful = refl; octets = refl; plain = refl }) (code_plain c, tt) refl refl refl
error_head c (Some tag) text pdu h = leaf_plain (codes "report_error") _ [] (record { lawful = refl; octets = refl; plain = refl }) (code_plain c, (tag_plain (Some tag) h, tt)) refl refl refl

details_plain : (r : ReportErrorFields) → IsWritableError r → ArePlain (report_error_element r).children
unfolding report_error_element
details_plain r h = (
  leaf_plain (codes "error_text") [] (shown_text r.error_code r.error_text) (record { lawful = refl; octets = refl; plain = refl }) tt refl (shown_trimmed r.error_code r.error_text h.trimmed) (shown_octets r.error_code r.error_text h.error_text),
  ((λ e. absurd cc), (tt, failed_plain r.failed_pdu h.failed_pdu)),
)

textless : (r : ReportErrorFields) → (report_error_element r).head.text ≡ []
unfolding report_error_element
textless r = refl

errors_plain : (list : List ReportErrorFields) → AllByRecursion IsWritableError list → ArePlain (elements_of report_error_element list)
errors_plain [] h = tt
errors_plain (r ∷ list) h = (error_head r.error_code r.tag r.error_text r.failed_pdu h.0.tag, ((λ e. textless r), (details_plain r h.0, errors_plain list h.1)))

-- ---- messages

root_plain : (type : List ℕ) (children : Elements) → AreOctets type → ArePlain children → ArePlain (alone (root_element type children))
unfolding is_declaration trimmed
root_plain type children h c = (
  record {
    name = record { lawful = refl; octets = refl; plain = refl };
    namespace = (refl, refl);
    attributes = (
      record { name = record { lawful = refl; octets = refl; plain = refl }; handed_on = refl; value = refl },
      (record { name = record { lawful = refl; octets = refl; plain = refl }; handed_on = refl; value = h }, tt),
    );
    distinct = refl;
    trimmed = refl;
    text = refl;
  },
  ((λ e. refl), (c, tt)),
)

message_plain : (m : Message) → IsWritable m → ArePlain (alone (element_of m))
unfolding element_of
message_plain (message.Query query.List) h = root_plain (codes "query") (alone (leaf (codes "list") [] [])) refl list_plain
message_plain (message.Query (query.Delta list)) h = root_plain (codes "query") _ refl (changes_plain list h)
message_plain (message.Reply (reply.List list)) h = root_plain (codes "reply") _ refl (objects_plain list h)
message_plain (message.Reply reply.Success) h = root_plain (codes "reply") (alone (leaf (codes "success") [] [])) refl success_plain
message_plain (message.Reply (reply.ErrorReply list)) h = root_plain (codes "reply") _ refl (errors_plain list h.1)

pub text_again : (m : Message) → IsWritable m → Reads (text_of m) (normal_form m)
unfolding text_of
text_again m h = record { element = element_of m; document = written_is_read (element_of m) (message_plain m h); message = message_again m h }
