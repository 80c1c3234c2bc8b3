-- What elements are spelled as, in the parts that they are written in.
use Rattle.std.proofs.Common.{◌≡◌, ℕ, true, false, List, [], ◌∷◌, ◌++◌, Option, Some, sym, ap, ◌∙◌, append_assoc}
use Rattle.std.proofs.lemmas.List.{append-nil}
use Rattle.std.specs.Prelude.{codes}
use Rattle.base64.specs.Engines.{standard}
use Rattle.base64.specs.GeneralPurpose.{encode_of}
use Rattle.hex.specs.Hex.{encode_lower}
use Rattle.rpki_xmltext.specs.Inside.{text_inside}
use Rattle.rpki_xmltext.proofs.Elements.{leaf_spelled, two, three}
use Rattle.rpki_xml.specs.Draft.{optional_attribute}
use Rattle.rpki_xml.specs.Element.{Elements, is_none}
use Rattle.rpki_xml.specs.Spelling.{spelled, spelled_all, spelled_attribute, spelled_attributes, spelled_namespace, spelled_text, spelled_end}
use Rattle.rpki_publication.specs.declared.query_pdu.QueryPdu.{QueryPdu}
use Rattle.rpki_publication.specs.Change.{publish_element, update_element, withdraw_element, query_pdu_element}
use Rattle.rpki_publication.specs.ListElement.{ListElementFields}
use Rattle.rpki_publication.specs.ListReply.{list_element}
use Rattle.rpki_publication.specs.Message.{NAMESPACE, root_element}
use Rattle.rpki_publication.specs.Publish.{PublishFields, UpdateFields, WithdrawFields, tag_text}
use Rattle.rpki_publication.specs.ReportError.{ReportErrorFields, report_error_element, failed_pdu_elements, shown_text}
use Rattle.rpki_publication.specs.ReportErrorCode.{code_text}
use Rattle.rpki_publication.specs.Writing.{start_text}

abbrev tag_part : List ℕ → List ℕ
tag_part tag = spelled_attribute (codes "tag") tag

abbrev uri_part : List ℕ → List ℕ
uri_part uri = spelled_attribute (codes "uri") uri

abbrev hash_part : List ℕ → List ℕ
hash_part hash = spelled_attribute (codes "hash") (encode_lower hash)

pub publish_text : (p : PublishFields) (tag uri content : List ℕ) → tag ≡ tag_text p.tag → uri ≡ p.uri → content ≡ p.content
    → codes "<publish" ++ (tag_part tag ++ (uri_part uri ++ text_inside (codes "publish") (encode_of standard content))) ≡ spelled (publish_element p)
publish_text p tag uri content e f g =
    let inside = text_inside (codes "publish") (encode_of standard p.content) in
    rw (e, f, g) (ap (λ (l : List ℕ). codes "<publish" ++ l) (two (tag_part (tag_text p.tag)) (uri_part p.uri) inside)
    ∙ sym (leaf_spelled (codes "publish") (publish_element p).head.attributes (encode_of standard p.content)))

pub update_text : (u : UpdateFields) (tag uri hash content : List ℕ) → tag ≡ tag_text u.tag → uri ≡ u.uri → hash ≡ u.hash → content ≡ u.content
    → codes "<publish" ++ (tag_part tag ++ (uri_part uri ++ (hash_part hash ++ text_inside (codes "publish") (encode_of standard content)))) ≡ spelled (update_element u)
update_text u tag uri hash content e f h g =
    let inside = text_inside (codes "publish") (encode_of standard u.content) in
    rw (e, f, h, g) (ap (λ (l : List ℕ). codes "<publish" ++ l) (three (tag_part (tag_text u.tag)) (uri_part u.uri) (hash_part u.hash) inside)
    ∙ sym (leaf_spelled (codes "publish") (update_element u).head.attributes (encode_of standard u.content)))

pub withdraw_text : (w : WithdrawFields) (tag uri hash : List ℕ) → tag ≡ tag_text w.tag → uri ≡ w.uri → hash ≡ w.hash
    → codes "<withdraw" ++ (tag_part tag ++ (uri_part uri ++ (hash_part hash ++ codes "/>"))) ≡ spelled (withdraw_element w)
withdraw_text w tag uri hash e f h =
    rw (e, f, h) (ap (λ (l : List ℕ). codes "<withdraw" ++ l) (three (tag_part (tag_text w.tag)) (uri_part w.uri) (hash_part w.hash) (codes "/>"))
    ∙ sym (leaf_spelled (codes "withdraw") (withdraw_element w).head.attributes []))

pub object_text : (x : ListElementFields) (uri hash : List ℕ) → uri ≡ x.uri → hash ≡ x.hash
    → codes "<list" ++ (uri_part uri ++ (hash_part hash ++ codes "/>")) ≡ spelled (list_element x)
object_text x uri hash f h =
    rw (f, h) (ap (λ (l : List ℕ). codes "<list" ++ l) (two (uri_part x.uri) (hash_part x.hash) (codes "/>"))
    ∙ sym (leaf_spelled (codes "list") (list_element x).head.attributes []))

-- ---- errors

pub failed_text : (pdu : QueryPdu) → codes "<failed_pdu>" ++ (spelled (query_pdu_element pdu) ++ codes "</failed_pdu>") ≡ spelled_all (failed_pdu_elements (Some pdu))
unfolding spelled_text
failed_text pdu = sym (append-nil _)

abbrev code_part : ReportErrorFields → List ℕ
code_part r = spelled_attribute (codes "error_code") (code_text r.error_code)

abbrev own_tag : ReportErrorFields → List ℕ
own_tag r = spelled_attributes (optional_attribute (codes "tag") r.tag)

abbrev text_part : ReportErrorFields → List ℕ
text_part r = text_inside (codes "error_text") (shown_text r.error_code r.error_text)

abbrev pdu_part : ReportErrorFields → List ℕ
pdu_part r = spelled_all (failed_pdu_elements r.failed_pdu)

error_parts : (a b c d end : List ℕ) → codes "<report_error" ++ (a ++ (b ++ (codes "><error_text" ++ (c ++ (d ++ end)))))
    ≡ (60 ∷ (codes "report_error" ++ ([] ++ (a ++ b))) ++ 62 ∷ (([] ++ ((60 ∷ (codes "error_text" ++ ([] ++ [])) ++ c) ++ d)) ++ end)) ++ []
error_parts a b c d end =
    ap (λ (l : List ℕ). codes "<report_error" ++ l) (sym (append_assoc a b (codes "><error_text" ++ (c ++ (d ++ end))))
    ∙ ap (λ (l : List ℕ). (a ++ b) ++ (codes "><error_text" ++ l)) (sym (append_assoc c d end)))
    ∙ sym (append-nil _)

pub error_text : (r : ReportErrorFields) (code shown : List ℕ) (tag : Option (List ℕ)) (pdu : Option QueryPdu) → code ≡ code_text r.error_code → tag ≡ r.tag → shown ≡ shown_text r.error_code r.error_text → pdu ≡ r.failed_pdu
    → codes "<report_error"
    ++ (spelled_attribute (codes "error_code") code
    ++ (spelled_attributes (optional_attribute (codes "tag") tag)
    ++ (codes "><error_text" ++ (text_inside (codes "error_text") shown ++ (spelled_all (failed_pdu_elements pdu) ++ spelled_end (codes "report_error"))))))
    ≡ spelled (report_error_element r)
unfolding report_error_element spelled_text
error_text r code shown tag pdu e f g h = rw (e, f, g, h) (error_parts (code_part r) (own_tag r) (text_part r) (pdu_part r) (spelled_end (codes "report_error")))

-- ---- roots

start_parts : (space version type : List ℕ) → 60 ∷ (codes "msg" ++ (space ++ (version ++ type))) ≡ 60 ∷ (codes "msg" ++ (space ++ (version ++ (type ++ []))))
start_parts space version type = ap (λ (l : List ℕ). 60 ∷ (codes "msg" ++ (space ++ (version ++ l)))) (sym (append-nil type))

pub bare_text : (type : List ℕ) (children : Elements) → is_none children ≡ true → start_text type ++ codes "/>" ≡ spelled (root_element type children)
unfolding spelled_text
bare_text type children e = rw e (ap (λ (l : List ℕ). l ++ codes "/>") (start_parts (spelled_namespace (Some NAMESPACE)) (spelled_attribute (codes "version") (codes "4")) (spelled_attribute (codes "type") type)) ∙ sym (append-nil _))

pub root_text : (type : List ℕ) (children : Elements) → is_none children ≡ false → start_text type ++ (codes ">" ++ (spelled_all children ++ codes "</msg>")) ≡ spelled (root_element type children)
unfolding spelled_text
root_text type children e = rw e (ap (λ (l : List ℕ). l ++ (codes ">" ++ (spelled_all children ++ codes "</msg>"))) (start_parts (spelled_namespace (Some NAMESPACE)) (spelled_attribute (codes "version") (codes "4")) (spelled_attribute (codes "type") type)) ∙ sym (append-nil _))
