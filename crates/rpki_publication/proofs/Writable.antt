-- Every message that is read is writable.
use Rattle.std.proofs.Common.{◌≡◌, ◌≢◌, ℕ, Bool, true, false, List, [], ◌∷◌, Option, Some, None, refl, subst, ◌∙◌, IfSome}
use Rattle.std.specs.Prelude.{codes, filter, if◌then◌else◌}
use Rattle.std.specs.Str.{bytes_eq}
use Rattle.base64.specs.GeneralPurpose.{IsBytes}
use Rattle.rpki_common.specs.Chaining.{◌>>=◌}
use Rattle.rpki_common.specs.Items as items
use Rattle.rpki_common.proofs.Truths.{none_some, same_some}
use Rattle.rpki_xmltext.proofs.Attributes.{then_some, optional_lettered}
use Rattle.rpki_xmltext.proofs.Lawful.{IsLawful, lawful, some_lawful, each_writable, last_writable, child_lawful, there, uri_read}
use Rattle.rpki_xmltext.proofs.Spelt.{content_bytes}
use Rattle.rpki_xmltext.specs.UriText.{uri_of_text}
use Rattle.rpki_text.specs.Base64.{base64_content}
use Rattle.rpki_text.specs.Hash.{digest_of_text}
use Rattle.rpki_text.specs.Uri.{rsync, fault_of}
use Rattle.rpki_xml.specs.Content.{trimmed}
use Rattle.rpki_xml.specs.Element.{Head, Elements, none, first, Element, listed}
use Rattle.rpki_xml.specs.Lettered.{AreOctets, IsLetteredHead, AreLettered}
use Rattle.rpki_xml.specs.Trimmed.{AreTrimmed}
use Rattle.rpki_xml.specs.Tables.{optional, optional_by, where_there, each_of, at_most_one_child, is_named, is_first_named, the_child}
use Rattle.rpki_xml.proofs.Letters.{document_lettered}
use Rattle.rpki_xml.proofs.Trims.{document_trimmed}
use Rattle.rpki_publication.specs.declared.message.Message.{Message}
use Rattle.rpki_publication.specs.declared.message.Message.TheVariants as message
use Rattle.rpki_publication.specs.declared.publish_delta_element.PublishDeltaElement.{PublishDeltaElement}
use Rattle.rpki_publication.specs.declared.publish_delta_element.PublishDeltaElement.TheVariants as change
use Rattle.rpki_publication.specs.declared.query.Query.{Query}
use Rattle.rpki_publication.specs.declared.query.Query.TheVariants as query
use Rattle.rpki_publication.specs.declared.query_pdu.QueryPdu.{QueryPdu}
use Rattle.rpki_publication.specs.declared.query_pdu.QueryPdu.TheVariants as pdus
use Rattle.rpki_publication.specs.declared.reply.Reply.{Reply}
use Rattle.rpki_publication.specs.declared.reply.Reply.TheVariants as reply
use Rattle.rpki_publication.specs.Change.{published, publish_in, withdraw_in, change_in, list_query_in, query_pdu_in, IsDigest, IsWritableChange, IsWritablePdu}
use Rattle.rpki_publication.specs.ListElement.{ListElementFields}
use Rattle.rpki_publication.specs.ListReply.{list_element_in, IsWritableListElement}
use Rattle.rpki_publication.specs.Message.{query_in, reply_in, body_in, success_in, message_of, Reads, IsWritableQuery, IsWritableReply, IsWritable}
use Rattle.rpki_publication.specs.Pdu.{QueryAttributes, query_attributes_in, ReplyAttributes, reply_attributes_in}
use Rattle.rpki_publication.specs.ReportError.{ReportErrorFields, ErrorDetails, is_error_text, is_failed_pdu, error_text_in, failed_pdu_in, pdu_where_there, details_in, report_error_in, IsWritableError}
use Rattle.rpki_publication.proofs.Digits.{digest_read}

-- ---- attributes

there_digest : (text h : Option (List ℕ)) → where_there digest_of_text text ≡ Some h → IfSome h IsDigest
there_digest None h e = subst (λ (o : Option (List ℕ)). IfSome o IsDigest) (same_some None h e) tt
there_digest (Some text) h e =
    let p = then_some (digest_of_text text) (λ x. Some (Some x)) h e in
    subst (λ (o : Option (List ℕ)). IfSome o IsDigest) (same_some (Some p.0) h p.2) (digest_read text p.0 p.1)

hash_read : (h : Head) (d : Option (List ℕ)) → optional_by digest_of_text (codes "hash") h ≡ Some d → IfSome d IsDigest
unfolding optional_by
hash_read h d e = let p = then_some (optional (codes "hash") h) (where_there digest_of_text) d e in there_digest p.0 d p.2

pub record AreWritable (tag uri hash : Option (List ℕ)) : Type 0 where
  pub tag' : IfSome tag AreOctets
  pub uri' : IfSome uri (λ v. fault_of rsync v ≡ None)
  pub hash' : IfSome hash IsDigest

pub query_attributes : (h : Head) (a : QueryAttributes) → IsLetteredHead h → query_attributes_in h ≡ Some a → AreWritable a.tag a.uri a.hash
unfolding query_attributes_in
query_attributes h a l is =
    let p = then_some _ _ a is in
    let t = then_some (optional (codes "tag") h) _ a p.2 in
    let u = then_some (optional_by (uri_of_text rsync) (codes "uri") h) _ a t.2 in
    let d = then_some (optional_by digest_of_text (codes "hash") h) _ a u.2 in
    subst (λ (b : QueryAttributes). AreWritable b.tag b.uri b.hash) (same_some (record { tag = t.0; uri = u.0; hash = d.0 }) a d.2)
    (record { tag' = optional_lettered (codes "tag") h t.0 l t.1; uri' = uri_read rsync (codes "uri") h u.0 u.1; hash' = hash_read h d.0 d.1 })

pub reply_attributes : (h : Head) (a : ReplyAttributes) → IsLetteredHead h → reply_attributes_in h ≡ Some a → AreWritable a.tag a.uri a.hash
unfolding reply_attributes_in
reply_attributes h a l is =
    let p = then_some _ _ a is in
    let d = then_some (optional_by digest_of_text (codes "hash") h) _ a p.2 in
    let u = then_some (optional_by (uri_of_text rsync) (codes "uri") h) _ a d.2 in
    let t = then_some (optional (codes "tag") h) _ a u.2 in
    let c = then_some _ _ a t.2 in
    subst (λ (b : ReplyAttributes). AreWritable b.tag b.uri b.hash) (same_some (record { hash = d.0; uri = u.0; tag = t.0; error_code = c.0 }) a c.2)
    (record { tag' = optional_lettered (codes "tag") h t.0 l t.1; uri' = uri_read rsync (codes "uri") h u.0 u.1; hash' = hash_read h d.0 d.1 })

-- ---- elements of a query

published_writable : (tag : Option (List ℕ)) (uri content : List ℕ) (hash : Option (List ℕ)) → IfSome tag AreOctets → fault_of rsync uri ≡ None → IsBytes content → IfSome hash IsDigest → IsWritableChange (published tag uri content hash)
published_writable tag uri content None t u c h = record { tag = t; uri = u; content = c }
published_writable tag uri content (Some hash) t u c h = record { tag = t; uri = u; content = c; hash = h }

publish_writable : (e : Element) (c : PublishDeltaElement) → IsLetteredHead e.head → publish_in e ≡ Some c → IsWritableChange c
unfolding publish_in
publish_writable e c l is =
    let p = then_some _ _ c is in
    let q = then_some _ _ c p.2 in
    let a = then_some (query_attributes_in e.head) _ c q.2 in
    let w = query_attributes e.head a.0 l a.1 in
    let u = then_some a.0.uri _ c a.2 in
    let b = then_some (base64_content e.head.text) _ c u.2 in
    subst IsWritableChange (same_some (published a.0.tag u.0 b.0 a.0.hash) c b.2)
    (published_writable a.0.tag u.0 b.0 a.0.hash w.tag' (there _ a.0.uri u.0 u.1 w.uri') (content_bytes e.head.text b.0 l.text b.1) w.hash')

withdraw_writable : (e : Element) (c : PublishDeltaElement) → IsLetteredHead e.head → withdraw_in e ≡ Some c → IsWritableChange c
unfolding withdraw_in
withdraw_writable e c l is =
    let p = then_some _ _ c is in
    let q = then_some _ _ c p.2 in
    let a = then_some (query_attributes_in e.head) _ c q.2 in
    let w = query_attributes e.head a.0 l a.1 in
    let u = then_some a.0.uri _ c a.2 in
    let d = then_some a.0.hash _ c u.2 in
    subst IsWritableChange (same_some (change.Withdraw (record { tag = a.0.tag; uri = u.0; hash = d.0 })) c d.2)
    (record { tag = w.tag'; uri = there _ a.0.uri u.0 u.1 w.uri'; hash = there _ a.0.hash d.0 d.1 w.hash' })

change_at : (b : Bool) (e : Element) (c : PublishDeltaElement) → IsLetteredHead e.head → (if b then publish_in e else withdraw_in e) ≡ Some c → IsWritableChange c
change_at true e c l is = publish_writable e c l is
change_at false e c l is = withdraw_writable e c l is

change_writable : (e : Element) (c : PublishDeltaElement) → IsLetteredHead e.head → change_in e ≡ Some c → IsWritableChange c
unfolding change_in
change_writable e c l is = change_at (is_named (codes "publish") e.head) e c l is

pdu_at : (b : Bool) (e : Element) (pdu : QueryPdu) → IsLetteredHead e.head → (if b then (list_query_in e >>= λ _. Some pdus.List) else (change_in e >>= λ c. Some (pdus.PublishDeltaElement c))) ≡ Some pdu → IsWritablePdu pdu
pdu_at true e pdu l is = let p = then_some (list_query_in e) _ pdu is in subst IsWritablePdu (same_some pdus.List pdu p.2) tt
pdu_at false e pdu l is = let p = then_some (change_in e) _ pdu is in subst IsWritablePdu (same_some (pdus.PublishDeltaElement p.0) pdu p.2) (change_writable e p.0 l p.1)

pdu_writable : (e : Element) (pdu : QueryPdu) → IsLetteredHead e.head → query_pdu_in e ≡ Some pdu → IsWritablePdu pdu
unfolding query_pdu_in
pdu_writable e pdu l is = pdu_at (is_named (codes "list") e.head) e pdu l is

-- ---- elements of a reply

object_writable : (e : Element) (x : ListElementFields) → IsLawful e → list_element_in e ≡ Some x → IsWritableListElement x
unfolding list_element_in
object_writable e x l is =
    let p = then_some _ _ x is in
    let q = then_some _ _ x p.2 in
    let a = then_some (reply_attributes_in e.head) _ x q.2 in
    let w = reply_attributes e.head a.0 l.head a.1 in
    let u = then_some a.0.uri _ x a.2 in
    let d = then_some a.0.hash _ x u.2 in
    subst IsWritableListElement (same_some (record { uri = u.0; hash = d.0 }) x d.2)
    (record { uri = there _ a.0.uri u.0 u.1 w.uri'; hash = there _ a.0.hash d.0 d.1 w.hash' })

abbrev IsLawfulText : List ℕ → Type 0
IsLawfulText text = AreOctets text × (trimmed text ≡ text)

text_lawful : (e : Element) (text : Option (List ℕ)) → IsLawful e → error_text_in e ≡ Some text → IfSome text IsLawfulText
unfolding error_text_in
text_lawful e text l is =
    let p = then_some _ _ text is in
    subst (λ (o : Option (List ℕ)). IfSome o IsLawfulText) (same_some (Some e.head.text) text p.2) (l.head.text, l.trimmed')

pdu_there : (found : Option Element) (pdu : Option QueryPdu) → IfSome found (λ e. IsLetteredHead e.head) → pdu_where_there found ≡ Some pdu → IfSome pdu IsWritablePdu
pdu_there None pdu l is = subst (λ (o : Option QueryPdu). IfSome o IsWritablePdu) (same_some None pdu is) tt
pdu_there (Some e) pdu l is =
    let p = then_some (query_pdu_in e) (λ x. Some (Some x)) pdu is in
    subst (λ (o : Option QueryPdu). IfSome o IsWritablePdu) (same_some (Some p.0) pdu p.2) (pdu_writable e p.0 l p.1)

failed_writable : (e : Element) (pdu : Option QueryPdu) → IsLawful e → failed_pdu_in e ≡ Some pdu → IfSome pdu IsWritablePdu
unfolding failed_pdu_in
failed_writable e pdu l is =
    let p = then_some _ _ pdu is in
    let q = then_some (at_most_one_child e.children) pdu_where_there pdu p.2 in
    pdu_there q.0 pdu (child_lawful e.children q.0 l.below q.1) q.2

record AreDetails (d : ErrorDetails) : Type 0 where
  text : IfSome d.error_text IsLawfulText
  pdu : IfSome d.failed_pdu IsWritablePdu

details_writable : (children : Elements) (d : ErrorDetails) → AreLettered children → AreTrimmed children → details_in children ≡ Some d → AreDetails d
unfolding details_in
details_writable children d l t is =
    let list = listed children in
    let known = lawful children l t in
    let p = then_some _ _ d is in
    let x = then_some (items.the_last None error_text_in (filter is_error_text list)) _ d p.2 in
    let y = then_some (items.the_last None failed_pdu_in (filter is_failed_pdu list)) _ d x.2 in
    subst AreDetails (same_some (record { error_text = x.0; failed_pdu = y.0 }) d y.2)
    (record {
      text = last_writable error_text_in IsLawfulText text_lawful (filter is_error_text list) None x.0 (some_lawful is_error_text list known) tt x.1;
      pdu = last_writable failed_pdu_in IsWritablePdu failed_writable (filter is_failed_pdu list) None y.0 (some_lawful is_failed_pdu list known) tt y.1;
    })

octets_of : (text : Option (List ℕ)) → IfSome text IsLawfulText → IfSome text AreOctets
octets_of None h = tt
octets_of (Some text) h = h.0

trimmed_of : (text : Option (List ℕ)) → IfSome text IsLawfulText → IfSome text (λ t. trimmed t ≡ t)
trimmed_of None h = tt
trimmed_of (Some text) h = h.1

error_writable : (e : Element) (r : ReportErrorFields) → IsLawful e → report_error_in e ≡ Some r → IsWritableError r
unfolding report_error_in
error_writable e r l is =
    let p = then_some _ _ r is in
    let q = then_some _ _ r p.2 in
    let a = then_some (reply_attributes_in e.head) _ r q.2 in
    let w = reply_attributes e.head a.0 l.head a.1 in
    let c = then_some a.0.error_code _ r a.2 in
    let d = then_some (details_in e.children) _ r c.2 in
    let k = details_writable e.children d.0 l.below l.trims d.1 in
    subst IsWritableError (same_some (record { error_code = c.0; tag = a.0.tag; error_text = d.0.error_text; failed_pdu = d.0.failed_pdu }) r d.2)
    (record { tag = w.tag'; error_text = octets_of d.0.error_text k.text; trimmed = trimmed_of d.0.error_text k.text; failed_pdu = k.pdu })

-- ---- messages

lettered_change : (e : Element) (c : PublishDeltaElement) → IsLawful e → change_in e ≡ Some c → IsWritableChange c
lettered_change e c l is = change_writable e c l.head is

query_at : (b : Bool) (children : Elements) (q : Query) → AreLettered children → AreTrimmed children
    → (if b then (the_child children >>= λ e. list_query_in e >>= λ _. Some query.List) else (each_of change_in children >>= λ cs. Some (query.Delta cs))) ≡ Some q → IsWritableQuery q
query_at true children q l t is =
    let p = then_some (the_child children) _ q is in
    let r = then_some (list_query_in p.0) _ q p.2 in
    subst IsWritableQuery (same_some query.List q r.2) tt
query_at false children q l t is =
    let p = then_some (each_of change_in children) _ q is in
    subst IsWritableQuery (same_some (query.Delta p.0) q p.2) (each_writable change_in IsWritableChange lettered_change children p.0 l t p.1)

query_writable : (children : Elements) (q : Query) → AreLettered children → AreTrimmed children → query_in children ≡ Some q → IsWritableQuery q
unfolding query_in
query_writable children q l t is = query_at (is_first_named (codes "list") children) children q l t is

-- where an element stands first, there is an error
some_error : (children : Elements) (errors : List ReportErrorFields) → is_first_named (codes "report_error") children ≡ true → each_of report_error_in children ≡ Some errors → errors ≢ []
unfolding each_of
some_error none errors n is = absurd (never n)
  where
    never : false ≡ true → ⊥
    never e = cc
some_error (first h cs rest) errors n is =
    let p = then_some (report_error_in (record { head = h; children = cs })) _ errors is in
    let q = then_some (each_of report_error_in rest) _ errors p.2 in
    λ e. unlike p.0 q.0 (same_some (p.0 ∷ q.0) errors q.2 ∙ e)
  where
    unlike : (x : ReportErrorFields) (xs : List ReportErrorFields) → x ∷ xs ≡ [] → ⊥
    unlike x xs e = cc

others_at : (b : Bool) (children : Elements) (r : Reply) → is_first_named (codes "report_error") children ≡ b → AreLettered children → AreTrimmed children
    → (if b then (each_of report_error_in children >>= λ es. Some (reply.ErrorReply es)) else (each_of list_element_in children >>= λ xs. Some (reply.List xs))) ≡ Some r → IsWritableReply r
others_at true children r n l t is =
    let p = then_some (each_of report_error_in children) _ r is in
    subst IsWritableReply (same_some (reply.ErrorReply p.0) r p.2) (some_error children p.0 n p.1, each_writable report_error_in IsWritableError error_writable children p.0 l t p.1)
others_at false children r n l t is =
    let p = then_some (each_of list_element_in children) _ r is in
    subst IsWritableReply (same_some (reply.List p.0) r p.2) (each_writable list_element_in IsWritableListElement object_writable children p.0 l t p.1)

reply_at : (b : Bool) (children : Elements) (r : Reply) → AreLettered children → AreTrimmed children
    → (if b then (the_child children >>= λ e. success_in e >>= λ _. Some reply.Success) else if is_first_named (codes "report_error") children then (each_of report_error_in children >>= λ es. Some (reply.ErrorReply es)) else (each_of list_element_in children >>= λ xs. Some (reply.List xs))) ≡ Some r → IsWritableReply r
reply_at true children r l t is =
    let p = then_some (the_child children) _ r is in
    let q = then_some _ _ r p.2 in
    subst IsWritableReply (same_some reply.Success r q.2) tt
reply_at false children r l t is = others_at (is_first_named (codes "report_error") children) children r refl l t is

reply_writable : (children : Elements) (r : Reply) → AreLettered children → AreTrimmed children → reply_in children ≡ Some r → IsWritableReply r
unfolding reply_in
reply_writable children r l t is = reply_at (is_first_named (codes "success") children) children r l t is

body_at : (b c : Bool) (children : Elements) (m : Message) → AreLettered children → AreTrimmed children
    → (if b then (query_in children >>= λ q. Some (message.Query q)) else if c then (reply_in children >>= λ r. Some (message.Reply r)) else None) ≡ Some m → IsWritable m
body_at true c children m l t is = let p = then_some (query_in children) _ m is in subst IsWritable (same_some (message.Query p.0) m p.2) (query_writable children p.0 l t p.1)
body_at false true children m l t is = let p = then_some (reply_in children) _ m is in subst IsWritable (same_some (message.Reply p.0) m p.2) (reply_writable children p.0 l t p.1)
body_at false false children m l t is = absurd (none_some m is)

body_writable : (type : List ℕ) (children : Elements) (m : Message) → AreLettered children → AreTrimmed children → body_in type children ≡ Some m → IsWritable m
unfolding body_in
body_writable type children m l t is = body_at (bytes_eq type (codes "query")) (bytes_eq type (codes "reply")) children m l t is

pub message_writable : (b : List ℕ) (m : Message) → Reads b m → IsWritable m
unfolding message_of
message_writable b m r =
    let x = r.element in
    let l = document_lettered b x r.document in
    let t = document_trimmed b x r.document in
    let p = then_some _ _ m r.message in
    body_writable p.0 x.children m l.1.0 t.1.0 p.2
