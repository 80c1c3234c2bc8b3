-- The text of a message that was read has at most 40 octets for each octet read, and 1024 more. Printed sets are the longest for what they are
-- read of; none of their octets is escaped.
use Rattle.std.proofs.Common.{◌≡◌, ℕ, ◌+◌, ◌*◌, ◌/◌, ◌≤◌, Bool, true, false, cond, List, [], ◌∷◌, length, map, sum_by, Option, Some, None, filter, refl, ap, subst, arith, length-append, IfSome}
use Rattle.std.specs.Prelude.{codes, ◌^◌, if◌then◌else◌}
use Rattle.std.specs.Fmt.{decimal}
use Rattle.std.specs.Str.Parse.{without_leading_plus}
use Rattle.std.proofs.lemmas.Fmt.{length-decimal-le}
use Rattle.std.proofs.lemmas.List.Sums.{sum_by-cons}
use Rattle.base64.specs.Engines.{url_safe_no_pad}
use Rattle.base64.specs.GeneralPurpose.{encode_of, engine_symbols, IsBytes}
use Rattle.base64.specs.Rfc4648.{encode_symbols, padding_len}
use Rattle.base64.proofs.RoundTrip.{length-encode_symbols}
use Rattle.rpki_base.specs.Rfc3339.{rfc3339_time}
use Rattle.rpki_base.specs.RpkiSignatureAlgorithm.{x509_algorithm}
use Rattle.rpki_cert.specs.Cert.{CertFields, certificate}
use Rattle.rpki_cert.specs.Csr.{certification_request}
use Rattle.rpki_cert.specs.CsrAttributes.{ca_attributes}
use Rattle.rpki_cert.proofs.Shorter.{request_length}
use Rattle.rpki_cert.proofs.Slices.{slice_within}
use Rattle.rpki_common.specs.Items as items
use Rattle.rpki_common.proofs.Truths.{none_some, same_some}
use Rattle.rpki_der.specs.declared.mode.Mode.TheVariants.{Der}
use Rattle.rpki_der.specs.Whole.{whole_of}
use Rattle.rpki_xmltext.specs.Parts.{required_by}
use Rattle.rpki_xmltext.specs.UriText.{uri_of_text}
use Rattle.rpki_xmltext.proofs.Attributes.{then_some, required_lettered}
use Rattle.rpki_xmltext.proofs.Bounds.{named_size, required_size, content_size, whole, IsPart, found_part}
use Rattle.rpki_xmltext.proofs.Sizes.{values, weight, size, document_size}
use Rattle.rpki_xmltext.proofs.Spelt.{content_bytes}
use Rattle.rpki_sets.specs.Texts.{read_all}
use Rattle.rpki_sets.proofs.Fitting.{decimal_below-below}
use Rattle.rpki_text.specs.Base64.{base64_content}
use Rattle.rpki_text.specs.Handle.{is_handle, handle_of_text}
use Rattle.rpki_text.specs.KeyIdentifier.{key_identifier_of_text}
use Rattle.rpki_text.specs.Uri.{rsync}
use Rattle.rpki_text.proofs.Base64Laws.{length-encode}
use Rattle.rpki_updown.specs.Entitlements.{IssuedOf, SigningOf, ClassOf, IssuanceOf, AskedOf, IssuedFields, SigningFields, ClassFields, IssuanceFields, IssuanceRequestFields, CaRequest, issued_with, class_with, issuance_with, asked_with}
use Rattle.rpki_updown.specs.KeyElement.{KeyElementFields}
use Rattle.rpki_updown.specs.NotPerformedResponse.{NotPerformedFields}
use Rattle.rpki_updown.specs.PayloadType.{payload_type_text, payload_type_of_text}
use Rattle.rpki_updown.specs.declared.payload_type.PayloadType.{PayloadType}
use Rattle.rpki_updown.specs.declared.payload_type.PayloadType.TheVariants as kind
use Rattle.rpki_xml.specs.Element.{Head, Elements, none, first, Element, listed}
use Rattle.rpki_xml.specs.Lettered.{IsLetteredHead, AreLettered}
use Rattle.rpki_xml.specs.Spelling.{spelled, spelled_all}
use Rattle.rpki_xml.specs.Tables.{require, is_named, required, each_of, the_child, no_child, at_most_one_child}
use Rattle.rpki_xml.proofs.Letters.{document_lettered}
use Rattle.rpki_provisioning.specs.declared.payload.Payload.{Payload}
use Rattle.rpki_provisioning.specs.declared.payload.Payload.TheVariants as payload
use Rattle.rpki_provisioning.specs.declared.shape.PayloadShape.{PayloadShape}
use Rattle.rpki_provisioning.specs.declared.shape.PayloadShape.TheVariants as shape
use Rattle.rpki_provisioning.specs.Class.{certificate_in, issuer_in, is_certificate, is_issuer, Certificates, certificates_in, ClassStart, class_start_in, class_in, class_of_issuance, issuance_of_class, issuance_in}
use Rattle.rpki_provisioning.specs.Limit.{limit_in, resources_in}
use Rattle.rpki_provisioning.specs.Message.{shape_type, payload_elements, root_element, shape_element, payload_in, message_root_in, shape_in, text_of, message_of, Reads}
use Rattle.rpki_provisioning.specs.NotPerformed.{status_in, description_in, description_where_there, not_performed_in}
use Rattle.rpki_provisioning.specs.Request.{request_in, key_in}
use Rattle.rpki_provisioning.specs.Shape.{MessageOf, MessageFields, MessageShape, certificate_octets, request_octets, certificate_of, request_of, issued_by, signing_by, class_by, issuance_by, asked_by, payload_shape, payload_of_shape, message_of_shape}
use Rattle.rpki_provisioning.proofs.Keys.{key_read}
use Rattle.rpki_cert.proofs.Reread.{begins}
use Rattle.rpki_provisioning.proofs.Tallies.{not_both, one_read, one_sum, child_within}
use Rattle.rpki_provisioning.proofs.SpelledBounds.{called, distinct_sum, called_size, called_uri, limit_length, limit_size, set_length, resources_size, text_length, issued_bound, issuer_bound, class_bound, asked_bound, key_bound, description_bound, not_performed_bound, payload_bound, payload_spelled, root_spelled}

-- ---- what is read as certificates and as a request is written no longer

count_mono : (m n a b : ℕ) → m ≤ n → a ≡ (4 * m + 2) / 3 + padding_len m → b ≡ (4 * n + 2) / 3 + padding_len n → a ≤ b
count_mono m n a b h e g = omega (arith, h, e, g)

text_mono : (a b : List ℕ) → length a ≤ length b → text_length a ≤ text_length b
text_mono a b h = count_mono (length a) (length b) (text_length a) (text_length b) h (length-encode a) (length-encode b)

certificate_less : (o : List ℕ) (c : CertFields) → certificate_of o ≡ Some c → text_length c.slice ≤ text_length o
certificate_less o c e = text_mono c.slice o (slice_within o c (begins (certificate Der) o c e))

request_less : (o : List ℕ) (r : CaRequest) → IsBytes o → request_of o ≡ Some r → text_length (request_octets r) ≤ text_length o
request_less o r h e = text_mono (request_octets r) o (request_length o r h (begins (certification_request ca_attributes (whole_of x509_algorithm) Der) o r e))

issued_less : (i : IssuedOf (List ℕ)) (c : IssuedFields) → issued_by certificate_of i ≡ Some c → issued_bound (issued_with certificate_octets c) ≤ issued_bound i
unfolding issued_by
issued_less i c is =
    let p = then_some (certificate_of i.cert) _ c is in
    let k = certificate_less i.cert p.0 p.1 in
    subst (λ (x : IssuedFields). issued_bound (issued_with certificate_octets x) ≤ issued_bound i) (same_some (record { uri = i.uri; req_limit = i.req_limit; cert = p.0 }) c p.2) (omega (arith, k))

sum_less : {A B : Type 0} (f : A → ℕ) (g : B → A) (read : A → Option B) → ((a : A) (b : B) → read a ≡ Some b → f (g b) ≤ f a) → (list : List A) (bs : List B) → read_all read list ≡ Some bs → sum_by f (map g bs) ≤ sum_by f list
unfolding read_all
sum_less {A} {B} f g read h [] bs is = subst (λ (l : List B). sum_by f (map g l) ≤ sum_by f []) (same_some [] bs is) (omega arith)
sum_less {A} {B} f g read h (a ∷ list) bs is =
    let p = then_some (read a) _ bs is in
    let q = then_some (read_all read list) _ bs p.2 in
    let one = h a p.0 p.1 in
    let more = sum_less f g read h list q.0 q.1 in
    let x = sum_by-cons f a list in
    let y = sum_by-cons f (g p.0) (map g q.0) in
    subst (λ (l : List B). sum_by f (map g l) ≤ sum_by f (a ∷ list)) (same_some (p.0 ∷ q.0) bs q.2)
    (together (sum_by f (a ∷ list)) (f a) (sum_by f list) (sum_by f (g p.0 ∷ map g q.0)) (f (g p.0)) (sum_by f (map g q.0)) x y one more)
  where
    together : (s a b t x y : ℕ) → s ≡ a + b → t ≡ x + y → x ≤ a → y ≤ b → t ≤ s
    together s a b t x y e g h k = omega (arith, e, g, h, k)

record IsLess (s : SigningOf (List ℕ)) (t : SigningFields) : Type 0 where
  url' : length t.url ≡ length s.url
  cert' : text_length t.cert.slice ≤ text_length s.cert

signing_less : (s : SigningOf (List ℕ)) (t : SigningFields) → signing_by certificate_of s ≡ Some t → IsLess s t
unfolding signing_by
signing_less s t is =
    let p = then_some (certificate_of s.cert) _ t is in
    subst (IsLess s) (same_some (record { url = s.url; cert = p.0 }) t p.2) (record { url' = refl; cert' = certificate_less s.cert p.0 p.1 })

less : (n u v s a b x y : ℕ) → v ≡ u → b ≤ a → y ≤ x → 6 * n + 6 * v + s + (b + (6 * y + 220)) + 60 ≤ 6 * n + 6 * u + s + (a + (6 * x + 220)) + 60
less n u v s a b x y e h k = omega (arith, e, h, k)

class_less : (c : ClassOf (List ℕ)) (d : ClassFields) → class_by certificate_of c ≡ Some d → class_bound (class_with certificate_octets d) ≤ class_bound c
unfolding class_by
class_less c d is =
    let i = then_some (read_all (issued_by certificate_of) c.issued_certs) _ d is in
    let s = then_some (signing_by certificate_of c.signing_cert) _ d i.2 in
    let a = sum_less issued_bound (issued_with certificate_octets) (issued_by certificate_of) issued_less c.issued_certs i.0 i.1 in
    let b = signing_less c.signing_cert s.0 s.1 in
    subst (λ (x : ClassFields). class_bound (class_with certificate_octets x) ≤ class_bound c)
    (same_some (record { class_name = c.class_name; resource_set = c.resource_set; not_after = c.not_after; issued_certs = i.0; signing_cert = s.0 }) d s.2)
    (less (length c.class_name) (length c.signing_cert.url) (length s.0.url) (set_length c.resource_set) (sum_by issued_bound c.issued_certs) (sum_by issued_bound (map (issued_with certificate_octets) i.0))
    (text_length c.signing_cert.cert) (text_length s.0.cert.slice) b.url' a b.cert')

issuance_less : (c : IssuanceOf (List ℕ)) (d : IssuanceFields) → issuance_by certificate_of c ≡ Some d → class_bound (class_of_issuance (issuance_with certificate_octets d)) ≤ class_bound (class_of_issuance c)
unfolding issuance_by
issuance_less c d is =
    let i = then_some (issued_by certificate_of c.issued_cert) _ d is in
    let s = then_some (signing_by certificate_of c.signing_cert) _ d i.2 in
    let a = issued_less c.issued_cert i.0 i.1 in
    let x = sum_by-cons issued_bound c.issued_cert [] in
    let y = sum_by-cons issued_bound (issued_with certificate_octets i.0) [] in
    let b = signing_less c.signing_cert s.0 s.1 in
    subst (λ (z : IssuanceFields). class_bound (class_of_issuance (issuance_with certificate_octets z)) ≤ class_bound (class_of_issuance c))
    (same_some (record { class_name = c.class_name; resource_set = c.resource_set; not_after = c.not_after; issued_cert = i.0; signing_cert = s.0 }) d s.2)
    (less (length c.class_name) (length c.signing_cert.url) (length s.0.url) (set_length c.resource_set) (sum_by issued_bound (c.issued_cert ∷ [])) (sum_by issued_bound (issued_with certificate_octets i.0 ∷ []))
    (text_length c.signing_cert.cert) (text_length s.0.cert.slice) b.url'
    (alone_less (sum_by issued_bound (c.issued_cert ∷ [])) (issued_bound c.issued_cert) (sum_by issued_bound (issued_with certificate_octets i.0 ∷ [])) (issued_bound (issued_with certificate_octets i.0)) x y a) b.cert')
  where
    alone_less : (s a t b : ℕ) → s ≡ a + 0 → t ≡ b + 0 → b ≤ a → t ≤ s
    alone_less s a t b e g h = omega (arith, e, g, h)

abbrev HasBytes : PayloadShape → Type 0
HasBytes (shape.Issue request) = IsBytes request.csr
HasBytes _ = Unit {0}

payload_less : (s : PayloadShape) (p : Payload) → HasBytes s → payload_of_shape s ≡ Some p → payload_bound (payload_shape p) ≤ payload_bound s
unfolding payload_of_shape payload_shape asked_by
payload_less shape.List p h is = subst (λ (x : Payload). payload_bound (payload_shape x) ≤ 0) (same_some payload.List p is) (omega arith)
payload_less (shape.ListResponse classes) p h is =
    let a = then_some (read_all (class_by certificate_of) classes) _ p is in
    subst (λ (x : Payload). payload_bound (payload_shape x) ≤ sum_by class_bound classes) (same_some (payload.ListResponse a.0) p a.2)
    (sum_less class_bound (class_with certificate_octets) (class_by certificate_of) class_less classes a.0 a.1)
payload_less (shape.Issue request) p h is =
    let a = then_some (asked_by request_of request) _ p is in
    let r = then_some (request_of request.csr) _ a.0 a.1 in
    let k = request_less request.csr r.0 h r.1 in
    subst (λ (x : Payload). payload_bound (payload_shape x) ≤ asked_bound request) (same_some (payload.Issue a.0) p a.2)
    (subst (λ (x : IssuanceRequestFields). asked_bound (asked_with request_octets x) ≤ asked_bound request) (same_some (record { class_name = request.class_name; limit = request.limit; csr = r.0 }) a.0 r.2) (omega (arith, k)))
payload_less (shape.IssueResponse response) p h is =
    let a = then_some (issuance_by certificate_of response) _ p is in
    subst (λ (x : Payload). payload_bound (payload_shape x) ≤ class_bound (class_of_issuance response)) (same_some (payload.IssueResponse a.0) p a.2) (issuance_less response a.0 a.1)
payload_less (shape.Revoke request) p h is = subst (λ (x : Payload). payload_bound (payload_shape x) ≤ key_bound request) (same_some (payload.Revoke request) p is) (omega arith)
payload_less (shape.RevokeResponse response) p h is = subst (λ (x : Payload). payload_bound (payload_shape x) ≤ key_bound response) (same_some (payload.RevokeResponse response) p is) (omega arith)
payload_less (shape.ErrorResponse response) p h is = subst (λ (x : Payload). payload_bound (payload_shape x) ≤ not_performed_bound response) (same_some (payload.ErrorResponse response) p is) (omega arith)

-- ---- what is read keeps to the bounds

certificate_bound : (e : Element) (i : IssuedOf (List ℕ)) → IsLetteredHead e.head → certificate_in e ≡ Some i → issued_bound i ≤ 40 * whole e
unfolding certificate_in
certificate_bound e i l is =
    let p = then_some (require (is_named (codes "certificate") e.head)) _ i is in
    let q = then_some _ _ i p.2 in
    let r = then_some _ _ i q.2 in
    let u = then_some (required_by (uri_of_text rsync) (codes "cert_url") e.head) _ i r.2 in
    let m = then_some (limit_in e.head) _ i u.2 in
    let o = then_some (base64_content e.head.text) _ i m.2 in
    let long = named_size (codes "certificate") e.head p.0 p.1 in
    let a = called_uri (codes "cert_url") e.head u.0 u.1 in
    let b = limit_size e.head m.0 m.1 in
    let c = content_size e.head.text o.0 l.text o.1 in
    let d = distinct_sum (codes "cert_url" ∷ codes "req_resource_set_as" ∷ codes "req_resource_set_ipv4" ∷ codes "req_resource_set_ipv6" ∷ []) (refl, (refl, (refl, (refl, tt)))) e.head.attributes in
    subst (λ (j : IssuedOf (List ℕ)). issued_bound j ≤ 40 * whole e) (same_some (record { uri = u.0; req_limit = m.0; cert = o.0 }) i o.2)
    (together (length u.0) (limit_length m.0) (text_length o.0) (length e.head.name) (values e.head.attributes) (length e.head.text) (size e.children) (called (codes "cert_url") e.head) (called (codes "req_resource_set_as") e.head)
    (called (codes "req_resource_set_ipv4") e.head) (called (codes "req_resource_set_ipv6") e.head) long a b c d)
  where
    together : (u m o n v t c w x y z : ℕ) → 11 ≤ n → u ≤ w → m ≤ 40 * (x + (y + z)) + 73 → o ≤ t → w + (x + (y + (z + 0))) ≤ v → 6 * u + m + 6 * o + 39 ≤ 40 * (n + (v + t) + c)
    together u m o n v t c w x y z p q r s k = omega (arith, p, q, r, s, k)

issuer_read : (e : Element) (o : List ℕ) → IsLetteredHead e.head → issuer_in e ≡ Some o → issuer_bound o ≤ 40 * whole e
unfolding issuer_in
issuer_read e o l is =
    let p = then_some (require (is_named (codes "issuer") e.head)) _ o is in
    let q = then_some _ _ o p.2 in
    let long = named_size (codes "issuer") e.head p.0 p.1 in
    let c = content_size e.head.text o l.text q.2 in
    omega (arith, long, c)

abbrev Bounded : ℕ → List Element → List Element → Type 0
Bounded n certificates issuers = (xs : List (IssuedOf (List ℕ))) (ys : List (List ℕ)) → read_all certificate_in certificates ≡ Some xs → read_all issuer_in issuers ≡ Some ys
    → sum_by issued_bound xs + sum_by issuer_bound ys ≤ 40 * n

one_more : (e : Element) (n : ℕ) (certificates issuers : List Element) (b c : Bool) → IsLetteredHead e.head → is_certificate e ≡ b → is_issuer e ≡ c → Bounded n certificates issuers
    → Bounded (whole e + n) (cond b (e ∷ certificates) certificates) (cond c (e ∷ issuers) issuers)
unfolding read_all
one_more e n certificates issuers true true l is is' more xs ys p q = absurd (not_both e is is')
one_more e n certificates issuers true false l is is' more xs ys p q =
    let a = then_some (certificate_in e) _ xs p in
    let m = then_some (read_all certificate_in certificates) _ xs a.2 in
    let one = certificate_bound e a.0 l a.1 in
    let others = more m.0 ys m.1 q in
    let split = sum_by-cons issued_bound a.0 m.0 in
    subst (λ (list : List (IssuedOf (List ℕ))). sum_by issued_bound list + sum_by issuer_bound ys ≤ 40 * (whole e + n)) (same_some (a.0 ∷ m.0) xs m.2)
    (within (sum_by issued_bound (a.0 ∷ m.0)) (issued_bound a.0) (sum_by issued_bound m.0) (sum_by issuer_bound ys) (whole e) n split one others)
  where
    within : (s a m o w n : ℕ) → s ≡ a + m → a ≤ 40 * w → m + o ≤ 40 * n → s + o ≤ 40 * (w + n)
    within s a m o w n x y z = omega (arith, x, y, z)
one_more e n certificates issuers false true l is is' more xs ys p q =
    let a = then_some (issuer_in e) _ ys q in
    let m = then_some (read_all issuer_in issuers) _ ys a.2 in
    let one = issuer_read e a.0 l a.1 in
    let others = more xs m.0 p m.1 in
    let split = sum_by-cons issuer_bound a.0 m.0 in
    subst (λ (list : List (List ℕ)). sum_by issued_bound xs + sum_by issuer_bound list ≤ 40 * (whole e + n)) (same_some (a.0 ∷ m.0) ys m.2)
    (within (sum_by issuer_bound (a.0 ∷ m.0)) (issuer_bound a.0) (sum_by issuer_bound m.0) (sum_by issued_bound xs) (whole e) n split one others)
  where
    within : (s a m o w n : ℕ) → s ≡ a + m → a ≤ 40 * w → o + m ≤ 40 * n → o + s ≤ 40 * (w + n)
    within s a m o w n x y z = omega (arith, x, y, z)
one_more e n certificates issuers false false l is is' more xs ys p q =
    let others = more xs ys p q in
    within (sum_by issued_bound xs + sum_by issuer_bound ys) (whole e) n others
  where
    within : (s w n : ℕ) → s ≤ 40 * n → s ≤ 40 * (w + n)
    within s w n x = omega (arith, x)

children_bound : (es : Elements) → AreLettered es → Bounded (size es) (filter is_certificate (listed es)) (filter is_issuer (listed es))
unfolding read_all
children_bound none l xs ys p q =
    subst (λ (list : List (IssuedOf (List ℕ))). sum_by issued_bound list + sum_by issuer_bound ys ≤ 0) (same_some [] xs p)
    (subst (λ (list : List (List ℕ)). sum_by issued_bound [] + sum_by issuer_bound list ≤ 0) (same_some [] ys q) (omega arith))
children_bound (first head children rest) l xs ys p q =
    let e : Element = record { head = head; children = children } in
    let more = one_more e (size rest) (filter is_certificate (listed rest)) (filter is_issuer (listed rest)) (is_certificate e) (is_issuer e) l.0 refl refl (children_bound rest l.1.1) xs ys p q in
    within (sum_by issued_bound xs + sum_by issuer_bound ys) (weight head) (size children) (size rest) more
  where
    within : (s w c r : ℕ) → s ≤ 40 * (w + c + r) → s ≤ 40 * (w + (c + r))
    within s w c r h = omega (arith, h)

certificates_bound : (es : Elements) (c : Certificates) → AreLettered es → certificates_in es ≡ Some c → sum_by issued_bound c.issued + issuer_bound c.issuer ≤ 40 * size es
unfolding certificates_in
certificates_bound es c l is =
    let a = then_some _ _ c is in
    let i = then_some (read_all certificate_in (filter is_certificate (listed es))) _ c a.2 in
    let o = then_some (items.the_one issuer_in (filter is_issuer (listed es))) _ c i.2 in
    let all = children_bound es l i.0 (o.0 ∷ []) i.1 (one_read issuer_in (filter is_issuer (listed es)) o.0 o.1) in
    let split = sum_by-cons issuer_bound o.0 [] in
    subst (λ (d : Certificates). sum_by issued_bound d.issued + issuer_bound d.issuer ≤ 40 * size es) (same_some (record { issued = i.0; issuer = o.0 }) c o.2)
    (within (sum_by issued_bound i.0) (sum_by issuer_bound (o.0 ∷ [])) (issuer_bound o.0) (size es) split all)
  where
    within : (s t o n : ℕ) → t ≡ o + 0 → s + t ≤ 40 * n → s + o ≤ 40 * n
    within s t o n e h = omega (arith, e, h)

abbrev start_bound : ClassStart → ℕ
start_bound s = 6 * length s.class_name + 6 * length s.url + set_length s.resource_set

start_read : (h : Head) (s : ClassStart) → class_start_in h ≡ Some s → start_bound s ≤ 40 * values h.attributes
unfolding class_start_in
start_read h s is =
    let p = then_some _ _ s is in
    let q = then_some _ _ s p.2 in
    let n = then_some (required (codes "class_name") h) _ s q.2 in
    let u = then_some (required_by (uri_of_text rsync) (codes "cert_url") h) _ s n.2 in
    let r = then_some (resources_in h) _ s u.2 in
    let t = then_some (required_by rfc3339_time (codes "resource_set_notafter") h) _ s r.2 in
    let a = called_size (codes "class_name") h n.0 n.1 in
    let b = called_uri (codes "cert_url") h u.0 u.1 in
    let c = resources_size h r.0 r.1 in
    let d = distinct_sum (codes "class_name" ∷ codes "cert_url" ∷ codes "resource_set_as" ∷ codes "resource_set_ipv4" ∷ codes "resource_set_ipv6" ∷ []) (refl, (refl, (refl, (refl, (refl, tt))))) h.attributes in
    subst (λ (x : ClassStart). start_bound x ≤ 40 * values h.attributes) (same_some (record { class_name = n.0; url = u.0; resource_set = r.0; not_after = t.0 }) s t.2)
    (together (length n.0) (length u.0) (set_length r.0) (values h.attributes) (called (codes "class_name") h) (called (codes "cert_url") h) (called (codes "resource_set_as") h) (called (codes "resource_set_ipv4") h)
    (called (codes "resource_set_ipv6") h) a b c d)
  where
    together : (n u r v i w x y z : ℕ) → n ≤ i → u ≤ w → r ≤ 40 * (x + (y + z)) → i + (w + (x + (y + (z + 0)))) ≤ v → 6 * n + 6 * u + r ≤ 40 * v
    together n u r v i w x y z a b c d = omega (arith, a, b, c, d)

class_read : (e : Element) (c : ClassOf (List ℕ)) → AreLettered e.children → class_in e ≡ Some c → class_bound c ≤ 40 * whole e
unfolding class_in
class_read e c l is =
    let p = then_some (require (is_named (codes "class") e.head)) _ c is in
    let q = then_some _ _ c p.2 in
    let s = then_some (class_start_in e.head) _ c q.2 in
    let d = then_some (certificates_in e.children) _ c s.2 in
    let long = named_size (codes "class") e.head p.0 p.1 in
    let a = start_read e.head s.0 s.1 in
    let b = certificates_bound e.children d.0 l d.1 in
    subst (λ (x : ClassOf (List ℕ)). class_bound x ≤ 40 * whole e)
    (same_some (record { class_name = s.0.class_name; resource_set = s.0.resource_set; not_after = s.0.not_after; issued_certs = d.0.issued; signing_cert = record { url = s.0.url; cert = d.0.issuer } }) c d.2)
    (together (start_bound s.0) (sum_by issued_bound d.0.issued + issuer_bound d.0.issuer) (length e.head.name) (values e.head.attributes) (length e.head.text) (size e.children) long a b)
  where
    together : (s d n v t c : ℕ) → 5 ≤ n → s ≤ 40 * v → d ≤ 40 * c → s + d + 60 ≤ 40 * (n + (v + t) + c)
    together s d n v t c x y z = omega (arith, x, y, z)

classes_read : (es : Elements) (list : List (ClassOf (List ℕ))) → AreLettered es → each_of class_in es ≡ Some list → sum_by class_bound list ≤ 40 * size es
unfolding each_of
classes_read none list l is = subst (λ (cs : List (ClassOf (List ℕ))). sum_by class_bound cs ≤ 0) (same_some [] list is) (omega arith)
classes_read (first head children rest) list l is =
    let e : Element = record { head = head; children = children } in
    let c = then_some (class_in e) _ list is in
    let more = then_some (each_of class_in rest) _ list c.2 in
    let one = class_read e c.0 l.1.0 c.1 in
    let others = classes_read rest more.0 l.1.1 more.1 in
    let split = sum_by-cons class_bound c.0 more.0 in
    subst (λ (cs : List (ClassOf (List ℕ))). sum_by class_bound cs ≤ 40 * size (first head children rest)) (same_some (c.0 ∷ more.0) list more.2)
    (within (sum_by class_bound (c.0 ∷ more.0)) (class_bound c.0) (sum_by class_bound more.0) (weight head) (size children) (size rest) split one others)
  where
    within : (s c m w k r : ℕ) → s ≡ c + m → c ≤ 40 * (w + k) → m ≤ 40 * r → s ≤ 40 * (w + (k + r))
    within s c m w k r x y z = omega (arith, x, y, z)

issuance_read : (e : Element) (i : IssuanceOf (List ℕ)) → AreLettered e.children → issuance_in e ≡ Some i → class_bound (class_of_issuance i) ≤ 40 * whole e
unfolding issuance_in issuance_of_class
issuance_read e i l is =
    let c = then_some (class_in e) _ i is in
    let o = then_some (items.the_one (λ j. Some j) c.0.issued_certs) _ i c.2 in
    let all = class_read e c.0 l c.1 in
    let one = one_sum issued_bound c.0.issued_certs o.0 o.1 in
    let split = sum_by-cons issued_bound o.0 [] in
    subst (λ (x : IssuanceOf (List ℕ)). class_bound (class_of_issuance x) ≤ 40 * whole e)
    (same_some (record { class_name = c.0.class_name; resource_set = c.0.resource_set; not_after = c.0.not_after; issued_cert = o.0; signing_cert = c.0.signing_cert }) i o.2)
    (together (6 * length c.0.class_name + 6 * length c.0.signing_cert.url + set_length c.0.resource_set) (sum_by issued_bound c.0.issued_certs) (sum_by issued_bound (o.0 ∷ [])) (issued_bound o.0) (issuer_bound c.0.signing_cert.cert)
    (40 * whole e) split one all)
  where
    together : (m s t a o n : ℕ) → t ≡ a + 0 → a ≤ s → m + (s + o) + 60 ≤ n → m + (t + o) + 60 ≤ n
    together m s t a o n x y z = omega (arith, x, y, z)

record IsAsked (n : ℕ) (a : AskedOf (List ℕ)) : Type 0 where
  bytes' : IsBytes a.csr
  most' : asked_bound a ≤ 40 * n

request_read : (e : Element) (a : AskedOf (List ℕ)) → IsLetteredHead e.head → request_in e ≡ Some a → IsAsked (whole e) a
unfolding request_in
request_read e a l is =
    let p = then_some (require (is_named (codes "request") e.head)) _ a is in
    let q = then_some _ _ a p.2 in
    let r = then_some _ _ a q.2 in
    let n = then_some (required (codes "class_name") e.head) _ a r.2 in
    let m = then_some (limit_in e.head) _ a n.2 in
    let o = then_some (base64_content e.head.text) _ a m.2 in
    let long = named_size (codes "request") e.head p.0 p.1 in
    let b = called_size (codes "class_name") e.head n.0 n.1 in
    let c = limit_size e.head m.0 m.1 in
    let d = content_size e.head.text o.0 l.text o.1 in
    let k = distinct_sum (codes "class_name" ∷ codes "req_resource_set_as" ∷ codes "req_resource_set_ipv4" ∷ codes "req_resource_set_ipv6" ∷ []) (refl, (refl, (refl, (refl, tt)))) e.head.attributes in
    subst (IsAsked (whole e)) (same_some (record { class_name = n.0; limit = m.0; csr = o.0 }) a o.2)
    (record {
      bytes' = content_bytes e.head.text o.0 l.text o.1;
      most' = together (length n.0) (limit_length m.0) (text_length o.0) (length e.head.name) (values e.head.attributes) (length e.head.text) (size e.children) (called (codes "class_name") e.head)
          (called (codes "req_resource_set_as") e.head) (called (codes "req_resource_set_ipv4") e.head) (called (codes "req_resource_set_ipv6") e.head) long b c d k;
    })
  where
    together : (u m o n v t c w x y z : ℕ) → 7 ≤ n → u ≤ w → m ≤ 40 * (x + (y + z)) + 73 → o ≤ t → w + (x + (y + (z + 0))) ≤ v → 6 * u + m + 6 * o + 60 ≤ 40 * (n + (v + t) + c)
    together u m o n v t c w x y z p q r s k = omega (arith, p, q, r, s, k)

key_length : (key : List ℕ) → length key ≡ 20 → length (encode_of url_safe_no_pad key) ≤ 28
key_length key h =
    let e = length-append (encode_symbols (engine_symbols url_safe_no_pad) key) [] in
    let g = length-encode_symbols (engine_symbols url_safe_no_pad) key in
    omega (arith, e, g, h)

key_bounded : (e : Element) (k : KeyElementFields) → IsLetteredHead e.head → key_in e ≡ Some k → key_bound k ≤ 40 * whole e + 400
unfolding key_in required_by
key_bounded e k l is =
    let p = then_some _ _ k is in
    let q = then_some _ _ k p.2 in
    let r = then_some _ _ k q.2 in
    let n = then_some (required (codes "class_name") e.head) _ k r.2 in
    let i = then_some (required_by key_identifier_of_text (codes "ski") e.head) _ k n.2 in
    let t = then_some (required (codes "ski") e.head) key_identifier_of_text i.0 i.1 in
    let count = key_length i.0 (key_read t.0 i.0 (required_lettered (codes "ski") e.head t.0 l t.1) t.2).count in
    let s = required_size (codes "class_name") e.head n.0 n.1 in
    subst (λ (x : KeyElementFields). key_bound x ≤ 40 * whole e + 400) (same_some (record { class_name = n.0; key = i.0 }) k i.2)
    (together (length n.0) (length (encode_of url_safe_no_pad i.0)) (length e.head.name) (values e.head.attributes) (length e.head.text) (size e.children) s count)
  where
    together : (n i a v t c : ℕ) → n ≤ v → i ≤ 28 → 6 * n + 6 * i + 60 ≤ 40 * (a + (v + t) + c) + 400
    together n i a v t c x y = omega (arith, x, y)

status_bound : (e : Element) (n : ℕ) → status_in e ≡ Some n → length (decimal n) ≤ 20
unfolding status_in
status_bound e n is =
    let p = then_some _ _ n is in
    let q = then_some _ _ n p.2 in
    let small = decimal_below-below (2 ^ 64) (without_leading_plus e.head.text) n q.2 in
    length-decimal-le 20 n (omega arith) (omega (arith, small)) (omega (arith, small))

description_read : (n : ℕ) (found : Option Element) (text : Option (List ℕ)) → IfSome found (IsPart n) → description_where_there found ≡ Some text → description_bound text ≤ 40 * n + 40
unfolding description_in
description_read n None text l is = subst (λ (t : Option (List ℕ)). description_bound t ≤ 40 * n + 40) (same_some None text is) (omega arith)
description_read n (Some e) text l is =
    let p = then_some (description_in e) (λ t. Some (Some t)) text is in
    let q = then_some _ _ p.0 p.1 in
    let r = then_some _ _ p.0 q.2 in
    let same = ap (λ (t : List ℕ). length t) (same_some e.head.text p.0 r.2) in
    let fits = l.fits in
    subst (λ (t : Option (List ℕ)). description_bound t ≤ 40 * n + 40) (same_some (Some p.0) text p.2) (omega (arith, same, fits))

not_performed_read : (children : Elements) (r : NotPerformedFields) → AreLettered children → not_performed_in children ≡ Some r → not_performed_bound r ≤ 40 * size children + 400
unfolding not_performed_in
not_performed_read none r l is = absurd (none_some r is)
not_performed_read (first h cs rest) r l is =
    let s = then_some (status_in (record { head = h; children = cs })) _ r is in
    let f = then_some (at_most_one_child rest) _ r s.2 in
    let d = then_some (description_where_there f.0) _ r f.2 in
    let a = status_bound (record { head = h; children = cs }) s.0 s.1 in
    let b = description_read (size rest) f.0 d.0 (found_part (size rest) rest f.0 l.1.1 (omega arith) f.1) d.1 in
    subst (λ (x : NotPerformedFields). not_performed_bound x ≤ 40 * size (first h cs rest) + 400) (same_some (record { status = s.0; description = d.0 }) r d.2)
    (together (length (decimal s.0)) (description_bound d.0) (weight h) (size cs) (size rest) a b)
  where
    together : (s d w c r : ℕ) → s ≤ 20 → d ≤ 40 * r + 40 → 6 * s + d + 40 ≤ 40 * (w + (c + r)) + 400
    together s d w c r x y = omega (arith, x, y)

-- ---- messages

record IsBound (n : ℕ) (p : PayloadShape) : Type 0 where
  bytes' : HasBytes p
  most' : payload_bound p ≤ 40 * n + 400

more_room : (a b n : ℕ) → a ≤ 40 * b → b ≤ n → a ≤ 40 * n + 400
more_room a b n h k = omega (arith, h, k)

same_room : (a b n : ℕ) → a ≤ 40 * b + 400 → b ≤ n → a ≤ 40 * n + 400
same_room a b n h k = omega (arith, h, k)

payload_read : (t : PayloadType) (children : Elements) (p : PayloadShape) → AreLettered children → payload_in t children ≡ Some p → IsBound (size children) p
unfolding payload_in
payload_read kind.List children p l is =
    let n = then_some (no_child children) _ p is in
    subst (IsBound (size children)) (same_some shape.List p n.2) (record { bytes' = tt; most' = omega arith })
payload_read kind.ListResponse children p l is =
    let c = then_some (each_of class_in children) _ p is in
    let k = classes_read children c.0 l c.1 in
    subst (IsBound (size children)) (same_some (shape.ListResponse c.0) p c.2) (record { bytes' = tt; most' = more_room (sum_by class_bound c.0) (size children) (size children) k (omega arith) })
payload_read kind.Issue children p l is =
    let e = then_some (the_child children) _ p is in
    let r = then_some (request_in e.0) _ p e.2 in
    let w = child_within children e.0 l e.1 in
    let k = request_read e.0 r.0 w.head r.1 in
    subst (IsBound (size children)) (same_some (shape.Issue r.0) p r.2) (record { bytes' = k.bytes'; most' = more_room (asked_bound r.0) (whole e.0) (size children) k.most' w.fits })
payload_read kind.IssueResponse children p l is =
    let e = then_some (the_child children) _ p is in
    let r = then_some (issuance_in e.0) _ p e.2 in
    let w = child_within children e.0 l e.1 in
    let k = issuance_read e.0 r.0 w.below r.1 in
    subst (IsBound (size children)) (same_some (shape.IssueResponse r.0) p r.2) (record { bytes' = tt; most' = more_room (class_bound (class_of_issuance r.0)) (whole e.0) (size children) k w.fits })
payload_read kind.Revoke children p l is =
    let e = then_some (the_child children) _ p is in
    let r = then_some (key_in e.0) _ p e.2 in
    let w = child_within children e.0 l e.1 in
    let k = key_bounded e.0 r.0 w.head r.1 in
    subst (IsBound (size children)) (same_some (shape.Revoke r.0) p r.2) (record { bytes' = tt; most' = same_room (key_bound r.0) (whole e.0) (size children) k w.fits })
payload_read kind.RevokeResponse children p l is =
    let e = then_some (the_child children) _ p is in
    let r = then_some (key_in e.0) _ p e.2 in
    let w = child_within children e.0 l e.1 in
    let k = key_bounded e.0 r.0 w.head r.1 in
    subst (IsBound (size children)) (same_some (shape.RevokeResponse r.0) p r.2) (record { bytes' = tt; most' = same_room (key_bound r.0) (whole e.0) (size children) k w.fits })
payload_read kind.ErrorResponse children p l is =
    let r = then_some (not_performed_in children) _ p is in
    subst (IsBound (size children)) (same_some (shape.ErrorResponse r.0) p r.2) (record { bytes' = tt; most' = not_performed_read children r.0 l r.1 })

handle_if : (b : Bool) (text h : List ℕ) → (if b then Some text else None) ≡ Some h → length h ≤ length text
handle_if true text h is = subst (λ (l : List ℕ). length l ≤ length text) (same_some text h is) (omega arith)
handle_if false text h is = absurd (none_some h is)

handle_size : (local : List ℕ) (h : Head) (x : List ℕ) → required_by handle_of_text local h ≡ Some x → length x ≤ values h.attributes
unfolding required_by
handle_size local h x e =
    let p = then_some (required local h) handle_of_text x e in
    let a = required_size local h p.0 p.1 in
    let b = handle_if (is_handle p.0) p.0 x p.2 in
    omega (arith, a, b)

record IsRoot (n : ℕ) (r : MessageOf PayloadType) : Type 0 where
  sender' : length r.sender ≤ n
  recipient' : length r.recipient ≤ n

root_read : (e : Element) (r : MessageOf PayloadType) → message_root_in e ≡ Some r → IsRoot (values e.head.attributes) r
unfolding message_root_in
root_read e r is =
    let p = then_some _ _ r is in
    let q = then_some _ _ r p.2 in
    let o = then_some _ _ r q.2 in
    let v = then_some _ _ r o.2 in
    let a = then_some (required_by handle_of_text (codes "sender") e.head) _ r v.2 in
    let b = then_some (required_by handle_of_text (codes "recipient") e.head) _ r a.2 in
    let t = then_some (required_by payload_type_of_text (codes "type") e.head) _ r b.2 in
    subst (IsRoot (values e.head.attributes)) (same_some (record { sender = a.0; recipient = b.0; payload = t.0 }) r t.2)
    (record { sender' = handle_size (codes "sender") e.head a.0 a.1; recipient' = handle_size (codes "recipient") e.head b.0 b.1 })

record IsShort (v n : ℕ) (s : MessageShape) : Type 0 where
  sender' : length s.sender ≤ v
  recipient' : length s.recipient ≤ v
  payload' : IsBound n s.payload

shape_read : (e : Element) (s : MessageShape) → AreLettered e.children → shape_in e ≡ Some s → IsShort (values e.head.attributes) (size e.children) s
unfolding shape_in
shape_read e s l is =
    let r = then_some (message_root_in e) _ s is in
    let p = then_some (payload_in r.0.payload e.children) _ s r.2 in
    let a = root_read e r.0 r.1 in
    subst (IsShort (values e.head.attributes) (size e.children)) (same_some (record { sender = r.0.sender; recipient = r.0.recipient; payload = p.0 }) s p.2)
    (record { sender' = a.sender'; recipient' = a.recipient'; payload' = payload_read r.0.payload e.children p.0 l p.1 })

message_size : (v n : ℕ) (s : MessageShape) (m : MessageFields) → IsShort v n s → message_of_shape s ≡ Some m → length (text_of m) ≤ 12 * v + 40 * n + 850
unfolding message_of_shape text_of shape_element
message_size v n s m h is =
    let p = then_some (payload_of_shape s.payload) _ m is in
    let filled = payload_shape p.0 in
    let root = root_spelled s.sender s.recipient (shape_type filled) (payload_elements filled) in
    let inside = payload_spelled filled in
    let less' = payload_less s.payload p.0 h.payload'.bytes' p.1 in
    subst (λ (x : MessageFields). length (text_of x) ≤ 12 * v + 40 * n + 850) (same_some (record { sender = s.sender; recipient = s.recipient; payload = p.0 }) m p.2)
    (together (length (spelled (root_element s.sender s.recipient (payload_type_text (shape_type filled)) (payload_elements filled)))) (length s.sender) (length s.recipient) (length (spelled_all (payload_elements filled)))
    (payload_bound filled) (payload_bound s.payload) v n root inside less' h.payload'.most' h.sender' h.recipient')
  where
    together : (all s r c x y v n : ℕ) → all ≤ 6 * s + 6 * r + c + 450 → c ≤ x → x ≤ y → y ≤ 40 * n + 400 → s ≤ v → r ≤ v → all ≤ 12 * v + 40 * n + 850
    together all s r c x y v n a b d e f g = omega (arith, a, b, d, e, f, g)

pub text_short : (b : List ℕ) (m : MessageFields) → Reads b m → length (text_of m) ≤ 40 * length b + 1024
unfolding message_of
text_short b m r =
    let x = r.element in
    let l = document_lettered b x r.document in
    let s = document_size b x r.document in
    let p = then_some (shape_in x) message_of_shape m r.message in
    let k = message_size (values x.head.attributes) (size x.children) p.0 m (shape_read x p.0 l.1.0 p.1) p.2 in
    together (length (text_of m)) (length x.head.name) (values x.head.attributes) (length x.head.text) (size x.children) (length b) k s
  where
    together : (all n v t c b : ℕ) → all ≤ 12 * v + 40 * c + 850 → n + (v + t) + (c + 0) ≤ b → all ≤ 40 * b + 1024
    together all n v t c b h k = omega (arith, h, k)
