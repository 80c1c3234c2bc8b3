-- The text of a message that was read has at most 40 octets for each octet read, and 1024 more.
use Rattle.std.proofs.Common.{◌≡◌, ℕ, ◌+◌, ◌*◌, ◌≤◌, Bool, true, false, List, [], ◌∷◌, ◌++◌, length, Option, Some, None, filter, refl, ap, subst, arith, length-append, IfSome}
use Rattle.std.specs.Prelude.{codes, if◌then◌else◌}
use Rattle.std.specs.Str.{bytes_eq}
use Rattle.std.proofs.lemmas.List.{append-nil}
use Rattle.base64.specs.Engines.{standard}
use Rattle.base64.specs.GeneralPurpose.{encode_of}
use Rattle.hex.specs.Hex.{lower_digits, encode_lower}
use Rattle.hex.proofs.HexLemmas.{length-encode_with}
use Rattle.rpki_common.specs.Chaining.{◌>>=◌}
use Rattle.rpki_common.specs.Items as items
use Rattle.rpki_common.proofs.Truths.{none_some, same_some}
use Rattle.rpki_xmltext.specs.Inside.{text_inside}
use Rattle.rpki_xmltext.specs.Parts.{attribute}
use Rattle.rpki_xmltext.specs.UriText.{uri_of_text}
use Rattle.rpki_xmltext.proofs.Attributes.{then_some}
use Rattle.rpki_xmltext.proofs.Bounds.{AtMost, attribute_size, end_size, inside_size, optional_attribute_size, leaf_size, named_size, optional_size, uri_size, there_size, content_size, whole, IsPart, parts, some_parts, last_part, found_part, each_size}
use Rattle.rpki_xmltext.proofs.Lawful.{IsLawful, there}
use Rattle.rpki_xmltext.proofs.Sizes.{values, weight, size, document_size}
use Rattle.rpki_text.specs.Base64.{base64_content}
use Rattle.rpki_text.specs.Hash.{digest_of_text}
use Rattle.rpki_text.specs.Uri.{rsync}
use Rattle.rpki_xml.specs.Draft.{optional_attribute}
use Rattle.rpki_xml.specs.Element.{Head, Elements, Element, listed, is_none}
use Rattle.rpki_xml.specs.Lettered.{IsLetteredHead, AreLettered}
use Rattle.rpki_xml.specs.Spelling.{spelled, spelled_all, spelled_attribute, spelled_attributes, spelled_value, spelled_text, spelled_end}
use Rattle.rpki_xml.specs.Tables.{require, is_named, optional, optional_by, each_of, at_most_one_child, the_child, is_first_named}
use Rattle.rpki_xml.specs.Trimmed.{AreTrimmed}
use Rattle.rpki_xml.proofs.Letters.{document_lettered}
use Rattle.rpki_xml.proofs.Trims.{document_trimmed}
use Rattle.rpki_publication.specs.declared.message.Message.{Message}
use Rattle.rpki_publication.specs.declared.message.Message.TheVariants as message
use Rattle.rpki_publication.specs.declared.publish_delta_element.PublishDeltaElement.{PublishDeltaElement}
use Rattle.rpki_publication.specs.declared.publish_delta_element.PublishDeltaElement.TheVariants as change
use Rattle.rpki_publication.specs.declared.query.Query.{Query}
use Rattle.rpki_publication.specs.declared.query.Query.TheVariants as query
use Rattle.rpki_publication.specs.declared.query_pdu.QueryPdu.{QueryPdu}
use Rattle.rpki_publication.specs.declared.query_pdu.QueryPdu.TheVariants as pdus
use Rattle.rpki_publication.specs.declared.reply.Reply.{Reply}
use Rattle.rpki_publication.specs.declared.reply.Reply.TheVariants as reply
use Rattle.rpki_publication.specs.declared.report_error_code.ReportErrorCode.{ReportErrorCode}
use Rattle.rpki_publication.specs.declared.report_error_code.ReportErrorCode.TheVariants as code
use Rattle.rpki_publication.specs.Change.{change_element, published, publish_in, withdraw_in, change_in, list_query_in, query_pdu_element, query_pdu_in, IsDigest}
use Rattle.rpki_publication.specs.ListElement.{ListElementFields}
use Rattle.rpki_publication.specs.ListReply.{list_element, list_element_in}
use Rattle.rpki_publication.specs.Message.{query_elements, reply_elements, root_element, element_of, text_of, query_in, reply_in, success_in, body_in, message_of, Reads}
use Rattle.rpki_publication.specs.Pdu.{QueryAttributes, query_attributes_in, ReplyAttributes, reply_attributes_in}
use Rattle.rpki_publication.specs.Publish.{tag_text}
use Rattle.rpki_publication.specs.ReportError.{ReportErrorFields, ErrorDetails, is_error_text, is_failed_pdu, error_text_in, failed_pdu_in, pdu_where_there, details_in, report_error_in, report_error_element, failed_pdu_elements, shown_text}
use Rattle.rpki_publication.specs.ReportErrorCode.{code_text, default_text}
use Rattle.rpki_publication.proofs.Digits.{hash_spelled}
use Rattle.rpki_publication.specs.Writing.{start_text}
use Rattle.rpki_publication.proofs.Texts.{error_text, failed_text, bare_text, root_text}
use Rattle.rpki_publication.proofs.Writable.{query_attributes, reply_attributes}

-- ---- what texts are spelled as

hash_size : (hash : List ℕ) → IsDigest hash → length (spelled_attribute (codes "hash") (encode_lower hash)) ≤ 72
hash_size hash h =
    let e = ap (λ (l : List ℕ). length l) (hash_spelled hash) in
    let a = length-append (codes " hash=\"") (encode_lower hash ++ codes "\"") in
    let b = length-append (encode_lower hash) (codes "\"") in
    let d = length-encode_with lower_digits hash in
    let n = h.0 in
    omega (arith, e, a, b, d, n)

query_sizes : (h : Head) (a : QueryAttributes) → query_attributes_in h ≡ Some a → AtMost (values h.attributes) a.tag × AtMost (values h.attributes) a.uri
unfolding query_attributes_in
query_sizes h a is =
    let p = then_some _ _ a is in
    let t = then_some (optional (codes "tag") h) _ a p.2 in
    let u = then_some (optional_by (uri_of_text rsync) (codes "uri") h) _ a t.2 in
    let d = then_some (optional_by digest_of_text (codes "hash") h) _ a u.2 in
    subst (λ (b : QueryAttributes). AtMost (values h.attributes) b.tag × AtMost (values h.attributes) b.uri) (same_some (record { tag = t.0; uri = u.0; hash = d.0 }) a d.2)
    (optional_size (codes "tag") h t.0 t.1, uri_size rsync (codes "uri") h u.0 u.1)

reply_sizes : (h : Head) (a : ReplyAttributes) → reply_attributes_in h ≡ Some a → AtMost (values h.attributes) a.tag × AtMost (values h.attributes) a.uri
unfolding reply_attributes_in
reply_sizes h a is =
    let p = then_some _ _ a is in
    let d = then_some (optional_by digest_of_text (codes "hash") h) _ a p.2 in
    let u = then_some (optional_by (uri_of_text rsync) (codes "uri") h) _ a d.2 in
    let t = then_some (optional (codes "tag") h) _ a u.2 in
    let c = then_some _ _ a t.2 in
    subst (λ (b : ReplyAttributes). AtMost (values h.attributes) b.tag × AtMost (values h.attributes) b.uri) (same_some (record { hash = d.0; uri = u.0; tag = t.0; error_code = c.0 }) a c.2)
    (optional_size (codes "tag") h t.0 t.1, uri_size rsync (codes "uri") h u.0 u.1)

pub tag_size : (n : ℕ) (tag : Option (List ℕ)) → AtMost n tag → length (tag_text tag) ≤ n
tag_size n None h = omega arith
tag_size n (Some tag) h = h

-- ---- elements of a query

two_attributes : (tag uri : List ℕ) (n : ℕ) → length tag ≤ n → length uri ≤ n → length (spelled_attribute (codes "tag") tag ++ (spelled_attribute (codes "uri") uri ++ [])) ≤ 12 * n + 14
two_attributes tag uri n t u =
    let a = attribute_size (codes "tag") tag in
    let b = attribute_size (codes "uri") uri in
    let e = length-append (spelled_attribute (codes "tag") tag) (spelled_attribute (codes "uri") uri ++ []) in
    let g = ap (λ (l : List ℕ). length l) (append-nil (spelled_attribute (codes "uri") uri)) in
    omega (arith, t, u, a, b, e, g)

pub three_attributes : (tag uri hash : List ℕ) (n : ℕ) → length tag ≤ n → length uri ≤ n → IsDigest hash
    → length (spelled_attribute (codes "tag") tag ++ (spelled_attribute (codes "uri") uri ++ (spelled_attribute (codes "hash") (encode_lower hash) ++ []))) ≤ 12 * n + 86
three_attributes tag uri hash n t u h =
    let a = attribute_size (codes "tag") tag in
    let b = attribute_size (codes "uri") uri in
    let c = hash_size hash h in
    let last = spelled_attribute (codes "hash") (encode_lower hash) in
    let e = length-append (spelled_attribute (codes "tag") tag) (spelled_attribute (codes "uri") uri ++ (last ++ [])) in
    let f = length-append (spelled_attribute (codes "uri") uri) (last ++ []) in
    let g = ap (λ (l : List ℕ). length l) (append-nil last) in
    omega (arith, t, u, a, b, c, e, f, g)

pub published_size : (tag : Option (List ℕ)) (uri content : List ℕ) (hash : Option (List ℕ)) (n k : ℕ) → AtMost n tag → length uri ≤ n → IfSome hash IsDigest → length (encode_of standard content) ≤ k
    → length (spelled (change_element (published tag uri content hash))) ≤ 12 * n + 6 * k + 120
unfolding change_element
published_size tag uri content None n k t u h c =
    let a = leaf_size (codes "publish") (attribute (codes "tag") (tag_text tag) ∷ attribute (codes "uri") uri ∷ []) (encode_of standard content) in
    let b = two_attributes (tag_text tag) uri n (tag_size n tag t) u in
    omega (arith, a, b, c)
published_size tag uri content (Some hash) n k t u h c =
    let a = leaf_size (codes "publish") (attribute (codes "tag") (tag_text tag) ∷ attribute (codes "uri") uri ∷ attribute (codes "hash") (encode_lower hash) ∷ []) (encode_of standard content) in
    let b = three_attributes (tag_text tag) uri hash n (tag_size n tag t) u h in
    omega (arith, a, b, c)

-- its length, and that its name is long enough for what is written round its parts
abbrev IsShort : Element → List ℕ → Type 0
IsShort e text = (length text ≤ 13 * weight e.head + 120) × (7 ≤ length e.head.name)

publish_short : (e : Element) (c : PublishDeltaElement) → IsLetteredHead e.head → publish_in e ≡ Some c → IsShort e (spelled (change_element c))
unfolding publish_in
publish_short e c l is =
    let p = then_some (require (is_named (codes "publish") e.head)) _ c is in
    let q = then_some _ _ c p.2 in
    let a = then_some (query_attributes_in e.head) _ c q.2 in
    let w = query_attributes e.head a.0 l a.1 in
    let s = query_sizes e.head a.0 a.1 in
    let u = then_some a.0.uri _ c a.2 in
    let b = then_some (base64_content e.head.text) _ c u.2 in
    let n = values e.head.attributes in
    let k = published_size a.0.tag u.0 b.0 a.0.hash n (length e.head.text) s.0 (there_size n a.0.uri u.0 u.1 s.1) w.hash' (content_size e.head.text b.0 l.text b.1) in
    let long = named_size (codes "publish") e.head p.0 p.1 in
    (subst (λ (x : PublishDeltaElement). length (spelled (change_element x)) ≤ 13 * weight e.head + 120) (same_some (published a.0.tag u.0 b.0 a.0.hash) c b.2) (omega (arith, k)), omega (arith, long))

withdraw_short : (e : Element) (c : PublishDeltaElement) → IsLetteredHead e.head → withdraw_in e ≡ Some c → IsShort e (spelled (change_element c))
unfolding withdraw_in change_element
withdraw_short e c l is =
    let p = then_some (require (is_named (codes "withdraw") e.head)) _ c is in
    let q = then_some _ _ c p.2 in
    let a = then_some (query_attributes_in e.head) _ c q.2 in
    let w = query_attributes e.head a.0 l a.1 in
    let s = query_sizes e.head a.0 a.1 in
    let u = then_some a.0.uri _ c a.2 in
    let d = then_some a.0.hash _ c u.2 in
    let n = values e.head.attributes in
    let k = leaf_size (codes "withdraw") (attribute (codes "tag") (tag_text a.0.tag) ∷ attribute (codes "uri") u.0 ∷ attribute (codes "hash") (encode_lower d.0) ∷ []) [] in
    let b = three_attributes (tag_text a.0.tag) u.0 d.0 n (tag_size n a.0.tag s.0) (there_size n a.0.uri u.0 u.1 s.1) (there IsDigest a.0.hash d.0 d.1 w.hash') in
    let long = named_size (codes "withdraw") e.head p.0 p.1 in
    (subst (λ (x : PublishDeltaElement). length (spelled (change_element x)) ≤ 13 * weight e.head + 120) (same_some (change.Withdraw (record { tag = a.0.tag; uri = u.0; hash = d.0 })) c d.2) (omega (arith, k, b)), omega (arith, long))

change_short : (e : Element) (c : PublishDeltaElement) → IsLetteredHead e.head → change_in e ≡ Some c → IsShort e (spelled (change_element c))
unfolding change_in
change_short e c l is = go (is_named (codes "publish") e.head) is
  where
    go : (b : Bool) → (if b then publish_in e else withdraw_in e) ≡ Some c → IsShort e (spelled (change_element c))
    go true is = publish_short e c l is
    go false is = withdraw_short e c l is

pdu_short : (e : Element) (pdu : QueryPdu) → IsLetteredHead e.head → query_pdu_in e ≡ Some pdu → length (spelled (query_pdu_element pdu)) ≤ 13 * weight e.head + 120
unfolding query_pdu_in query_pdu_element
pdu_short e pdu l is = go (is_named (codes "list") e.head) is
  where
    go : (b : Bool) → (if b then (list_query_in e >>= λ _. Some pdus.List) else (change_in e >>= λ c. Some (pdus.PublishDeltaElement c))) ≡ Some pdu → length (spelled (query_pdu_element pdu)) ≤ 13 * weight e.head + 120
    go true is = let p = then_some (list_query_in e) _ pdu is in subst (λ (x : QueryPdu). length (spelled (query_pdu_element x)) ≤ 13 * weight e.head + 120) (same_some pdus.List pdu p.2) (omega arith)
    go false is =
        let p = then_some (change_in e) _ pdu is in
        let k = (change_short e p.0 l p.1).0 in
        subst (λ (x : QueryPdu). length (spelled (query_pdu_element x)) ≤ 13 * weight e.head + 120) (same_some (pdus.PublishDeltaElement p.0) pdu p.2) k

-- ---- elements of a reply

change_size : (e : Element) (c : PublishDeltaElement) → IsLawful e → change_in e ≡ Some c → length (spelled (change_element c)) ≤ 40 * whole e
change_size e c l is = let s = change_short e c l.head is in let a = s.0 in let b = s.1 in omega (arith, a, b)

object_size : (e : Element) (x : ListElementFields) → IsLawful e → list_element_in e ≡ Some x → length (spelled (list_element x)) ≤ 40 * whole e
unfolding list_element_in
object_size e x l is =
    let p = then_some (require (is_named (codes "list") e.head)) _ x is in
    let q = then_some _ _ x p.2 in
    let a = then_some (reply_attributes_in e.head) _ x q.2 in
    let w = reply_attributes e.head a.0 l.head a.1 in
    let s = reply_sizes e.head a.0 a.1 in
    let u = then_some a.0.uri _ x a.2 in
    let d = then_some a.0.hash _ x u.2 in
    let n = values e.head.attributes in
    let long = named_size (codes "list") e.head p.0 p.1 in
    let h = hash_size d.0 (there IsDigest a.0.hash d.0 d.1 w.hash') in
    let v = attribute_size (codes "uri") u.0 in
    let m = there_size n a.0.uri u.0 u.1 s.1 in
    let last = spelled_attribute (codes "hash") (encode_lower d.0) in
    let k = leaf_size (codes "list") (list_element (record { uri = u.0; hash = d.0 })).head.attributes [] in
    let f = length-append (spelled_attribute (codes "uri") u.0) (last ++ []) in
    let g = ap (λ (t : List ℕ). length t) (append-nil last) in
    subst (λ (y : ListElementFields). length (spelled (list_element y)) ≤ 40 * whole e) (same_some (record { uri = u.0; hash = d.0 }) x d.2) (omega (arith, long, h, v, m, k, f, g))

code_size : (c : ReportErrorCode) → length (spelled_attribute (codes "error_code") (code_text c)) ≤ 40
unfolding spelled_value
code_size code.XmlError = omega arith
code_size code.PermissionFailure = omega arith
code_size code.BadCmsSignature = omega arith
code_size code.ObjectAlreadyPresent = omega arith
code_size code.NoObjectPresent = omega arith
code_size code.NoObjectMatchingHash = omega arith
code_size code.ConsistencyProblem = omega arith
code_size code.OtherError = omega arith

default_size : (c : ReportErrorCode) → length (text_inside (codes "error_text") (default_text c)) ≤ 200
unfolding spelled_text
default_size code.XmlError = omega arith
default_size code.PermissionFailure = omega arith
default_size code.BadCmsSignature = omega arith
default_size code.ObjectAlreadyPresent = omega arith
default_size code.NoObjectPresent = omega arith
default_size code.NoObjectMatchingHash = omega arith
default_size code.ConsistencyProblem = omega arith
default_size code.OtherError = omega arith

shown_size : (c : ReportErrorCode) (text : Option (List ℕ)) (n : ℕ) → AtMost n text → length (text_inside (codes "error_text") (shown_text c text)) ≤ 200 + 6 * n
shown_size c None n h = let d = default_size c in omega (arith, d)
shown_size c (Some text) n h = let i = inside_size (codes "error_text") text in omega (arith, i, h)

abbrev IsSmallPdu : ℕ → QueryPdu → Type 0
IsSmallPdu n pdu = length (spelled (query_pdu_element pdu)) ≤ 13 * n + 120

failed_size : (pdu : Option QueryPdu) (n : ℕ) → IfSome pdu (IsSmallPdu n) → length (spelled_all (failed_pdu_elements pdu)) ≤ 13 * n + 145
failed_size None n h = omega arith
failed_size (Some pdu) n h =
    let e = ap (λ (l : List ℕ). length l) (failed_text pdu) in
    let a = length-append (codes "<failed_pdu>") (spelled (query_pdu_element pdu) ++ codes "</failed_pdu>") in
    let b = length-append (spelled (query_pdu_element pdu)) (codes "</failed_pdu>") in
    omega (arith, e, a, b, h)

text_part : (n : ℕ) (e : Element) (text : Option (List ℕ)) → IsPart n e → error_text_in e ≡ Some text → AtMost n text
unfolding error_text_in
text_part n e text l is =
    let p = then_some _ _ text is in
    let k = l.fits in
    subst (AtMost n) (same_some (Some e.head.text) text p.2) (omega (arith, k))

pdu_at : (n : ℕ) (found : Option Element) (pdu : Option QueryPdu) → IfSome found (IsPart n) → pdu_where_there found ≡ Some pdu → IfSome pdu (IsSmallPdu n)
pdu_at n None pdu l is = subst (λ (o : Option QueryPdu). IfSome o (IsSmallPdu n)) (same_some None pdu is) tt
pdu_at n (Some e) pdu l is =
    let p = then_some (query_pdu_in e) (λ x. Some (Some x)) pdu is in
    let k = pdu_short e p.0 l.head p.1 in
    let f = l.fits in
    subst (λ (o : Option QueryPdu). IfSome o (IsSmallPdu n)) (same_some (Some p.0) pdu p.2) (omega (arith, k, f))

pdu_part : (n : ℕ) (e : Element) (pdu : Option QueryPdu) → IsPart n e → failed_pdu_in e ≡ Some pdu → IfSome pdu (IsSmallPdu n)
unfolding failed_pdu_in
pdu_part n e pdu l is =
    let p = then_some _ _ pdu is in
    let q = then_some (at_most_one_child e.children) pdu_where_there pdu p.2 in
    let f = l.fits in
    pdu_at n q.0 pdu (found_part n e.children q.0 l.below (omega (arith, f)) q.1) q.2

record AreSmall (n : ℕ) (d : ErrorDetails) : Type 0 where
  text : AtMost n d.error_text
  pdu : IfSome d.failed_pdu (IsSmallPdu n)

details_size : (children : Elements) (d : ErrorDetails) → AreLettered children → details_in children ≡ Some d → AreSmall (size children) d
unfolding details_in
details_size children d l is =
    let n = size children in
    let list = listed children in
    let known = parts children n l (omega arith) in
    let p = then_some _ _ d is in
    let x = then_some (items.the_last None error_text_in (filter is_error_text list)) _ d p.2 in
    let y = then_some (items.the_last None failed_pdu_in (filter is_failed_pdu list)) _ d x.2 in
    subst (AreSmall n) (same_some (record { error_text = x.0; failed_pdu = y.0 }) d y.2)
    (record {
      text = last_part n error_text_in (λ t. length t ≤ n) (text_part n) (filter is_error_text list) None x.0 (some_parts n is_error_text list known) tt x.1;
      pdu = last_part n failed_pdu_in (IsSmallPdu n) (pdu_part n) (filter is_failed_pdu list) None y.0 (some_parts n is_failed_pdu list known) tt y.1;
    })

report_size : (r : ReportErrorFields) (v n : ℕ) → AtMost v r.tag → AtMost n r.error_text → IfSome r.failed_pdu (IsSmallPdu n) → length (spelled (report_error_element r)) ≤ 6 * v + 19 * n + 450
report_size r v n t x p =
    let a = spelled_attribute (codes "error_code") (code_text r.error_code) in
    let b = spelled_attributes (optional_attribute (codes "tag") r.tag) in
    let i = text_inside (codes "error_text") (shown_text r.error_code r.error_text) in
    let f = spelled_all (failed_pdu_elements r.failed_pdu) in
    let end = spelled_end (codes "report_error") in
    let e = ap (λ (l : List ℕ). length l) (error_text r (code_text r.error_code) (shown_text r.error_code r.error_text) r.tag r.failed_pdu refl refl refl refl) in
    let e1 = length-append (codes "<report_error") (a ++ (b ++ (codes "><error_text" ++ (i ++ (f ++ end))))) in
    let e2 = length-append a (b ++ (codes "><error_text" ++ (i ++ (f ++ end)))) in
    let e3 = length-append b (codes "><error_text" ++ (i ++ (f ++ end))) in
    let e4 = length-append (codes "><error_text") (i ++ (f ++ end)) in
    let e5 = length-append i (f ++ end) in
    let e6 = length-append f end in
    let s1 = code_size r.error_code in
    let s2 = optional_attribute_size (codes "tag") r.tag v t in
    let s3 = shown_size r.error_code r.error_text n x in
    let s4 = failed_size r.failed_pdu n p in
    let s5 = end_size (codes "report_error") in
    omega (arith, e, e1, e2, e3, e4, e5, e6, s1, s2, s3, s4, s5)

error_size : (e : Element) (r : ReportErrorFields) → IsLawful e → report_error_in e ≡ Some r → length (spelled (report_error_element r)) ≤ 40 * whole e
unfolding report_error_in
error_size e r l is =
    let p = then_some (require (is_named (codes "report_error") e.head)) _ r is in
    let q = then_some _ _ r p.2 in
    let a = then_some (reply_attributes_in e.head) _ r q.2 in
    let s = reply_sizes e.head a.0 a.1 in
    let c = then_some a.0.error_code _ r a.2 in
    let d = then_some (details_in e.children) _ r c.2 in
    let k = details_size e.children d.0 l.below d.1 in
    let m : ReportErrorFields = record { error_code = c.0; tag = a.0.tag; error_text = d.0.error_text; failed_pdu = d.0.failed_pdu } in
    let z = report_size m (values e.head.attributes) (size e.children) s.0 k.text k.pdu in
    let long = named_size (codes "report_error") e.head p.0 p.1 in
    subst (λ (y : ReportErrorFields). length (spelled (report_error_element y)) ≤ 40 * whole e) (same_some m r d.2) (omega (arith, z, long))

-- ---- messages

pub root_size : (type : List ℕ) (children : Elements) → length (start_text type) ≤ 180 → length (spelled (root_element type children)) ≤ 200 + length (spelled_all children)
root_size type children s = go (is_none children) refl
  where
    go : (b : Bool) → is_none children ≡ b → length (spelled (root_element type children)) ≤ 200 + length (spelled_all children)
    go true e =
        let x = ap (λ (l : List ℕ). length l) (bare_text type children e) in
        let y = length-append (start_text type) (codes "/>") in
        omega (arith, x, y, s)
    go false e =
        let x = ap (λ (l : List ℕ). length l) (root_text type children e) in
        let y = length-append (start_text type) (codes ">" ++ (spelled_all children ++ codes "</msg>")) in
        let z = length-append (spelled_all children) (codes "</msg>") in
        omega (arith, x, y, z, s)

pub query_start : length (start_text (codes "query")) ≤ 180
unfolding spelled_value
query_start = omega arith

reply_start : length (start_text (codes "reply")) ≤ 180
unfolding spelled_value
reply_start = omega arith

query_size : (children : Elements) (q : Query) → AreLettered children → AreTrimmed children → query_in children ≡ Some q → length (spelled_all (query_elements q)) ≤ 40 * size children + 20
unfolding query_in spelled_text
query_size children q l t is = go (is_first_named (codes "list") children) is
  where
    go : (b : Bool) → (if b then (the_child children >>= λ e. list_query_in e >>= λ _. Some query.List) else (each_of change_in children >>= λ cs. Some (query.Delta cs))) ≡ Some q → length (spelled_all (query_elements q)) ≤ 40 * size children + 20
    go true is =
        let p = then_some (the_child children) _ q is in
        let r = then_some (list_query_in p.0) _ q p.2 in
        subst (λ (x : Query). length (spelled_all (query_elements x)) ≤ 40 * size children + 20) (same_some query.List q r.2) (omega arith)
    go false is =
        let p = then_some (each_of change_in children) _ q is in
        let k = each_size change_in change_element change_size children p.0 l t p.1 in
        subst (λ (x : Query). length (spelled_all (query_elements x)) ≤ 40 * size children + 20) (same_some (query.Delta p.0) q p.2) (omega (arith, k))

reply_size : (children : Elements) (r : Reply) → AreLettered children → AreTrimmed children → reply_in children ≡ Some r → length (spelled_all (reply_elements r)) ≤ 40 * size children + 20
unfolding reply_in spelled_text
reply_size children r l t is = go (is_first_named (codes "success") children) (is_first_named (codes "report_error") children) is
  where
    go : (b c : Bool)
        → (if b then (the_child children >>= λ e. success_in e >>= λ _. Some reply.Success) else if c then (each_of report_error_in children >>= λ es. Some (reply.ErrorReply es)) else (each_of list_element_in children >>= λ xs. Some (reply.List xs))) ≡ Some r
        → length (spelled_all (reply_elements r)) ≤ 40 * size children + 20
    go true c is =
        let p = then_some (the_child children) _ r is in
        let q = then_some _ _ r p.2 in
        subst (λ (x : Reply). length (spelled_all (reply_elements x)) ≤ 40 * size children + 20) (same_some reply.Success r q.2) (omega arith)
    go false true is =
        let p = then_some (each_of report_error_in children) _ r is in
        let k = each_size report_error_in report_error_element error_size children p.0 l t p.1 in
        subst (λ (x : Reply). length (spelled_all (reply_elements x)) ≤ 40 * size children + 20) (same_some (reply.ErrorReply p.0) r p.2) (omega (arith, k))
    go false false is =
        let p = then_some (each_of list_element_in children) _ r is in
        let k = each_size list_element_in list_element object_size children p.0 l t p.1 in
        subst (λ (x : Reply). length (spelled_all (reply_elements x)) ≤ 40 * size children + 20) (same_some (reply.List p.0) r p.2) (omega (arith, k))

body_size : (type : List ℕ) (children : Elements) (m : Message) → AreLettered children → AreTrimmed children → body_in type children ≡ Some m → length (text_of m) ≤ 40 * size children + 220
unfolding body_in text_of element_of
body_size type children m l t is = go (bytes_eq type (codes "query")) (bytes_eq type (codes "reply")) is
  where
    go : (b c : Bool) → (if b then (query_in children >>= λ q. Some (message.Query q)) else if c then (reply_in children >>= λ r. Some (message.Reply r)) else None) ≡ Some m → length (text_of m) ≤ 40 * size children + 220
    go true c is =
        let p = then_some (query_in children) _ m is in
        let k = query_size children p.0 l t p.1 in
        let r = root_size (codes "query") (query_elements p.0) query_start in
        subst (λ (x : Message). length (text_of x) ≤ 40 * size children + 220) (same_some (message.Query p.0) m p.2) (omega (arith, k, r))
    go false true is =
        let p = then_some (reply_in children) _ m is in
        let k = reply_size children p.0 l t p.1 in
        let r = root_size (codes "reply") (reply_elements p.0) reply_start in
        subst (λ (x : Message). length (text_of x) ≤ 40 * size children + 220) (same_some (message.Reply p.0) m p.2) (omega (arith, k, r))
    go false false is = absurd (none_some m is)

pub text_short : (b : List ℕ) (m : Message) → Reads b m → length (text_of m) ≤ 40 * length b + 1024
unfolding message_of
text_short b m r =
    let x = r.element in
    let l = document_lettered b x r.document in
    let t = document_trimmed b x r.document in
    let s = document_size b x r.document in
    let p = then_some _ _ m r.message in
    let k = body_size p.0 x.children m l.1.0 t.1.0 p.2 in
    omega (arith, s, k)
