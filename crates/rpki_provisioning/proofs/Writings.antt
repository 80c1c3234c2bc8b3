-- What the calls of the writer leave of a draft, for each element of a message.
use Rattle.std.proofs.Common.{◌≡◌, ℕ, List, [], Some, None, refl, sym, ap, ◌∙◌}
use Rattle.std.specs.Prelude.{codes}
use Rattle.std.specs.Fmt.{decimal}
use Rattle.base64.specs.Engines.{standard, url_safe_no_pad}
use Rattle.base64.specs.GeneralPurpose.{encode_of}
use Rattle.rpki_base.specs.Civil.{civil_at}
use Rattle.rpki_base.specs.TimeText.{rfc3339_text}
use Rattle.rpki_sets.specs.Resources.{Resources}
use Rattle.rpki_updown.specs.Entitlements.{IssuedOf, ClassOf, AskedOf}
use Rattle.rpki_updown.specs.KeyElement.{KeyElementFields}
use Rattle.rpki_updown.specs.NotPerformedResponse.{NotPerformedFields}
use Rattle.rpki_updown.specs.PayloadType.{payload_type_text}
use Rattle.rpki_updown.specs.RequestResourceLimit.{LimitFields}
use Rattle.rpki_xml.specs.Draft.{Draft, opened, with_attribute, with_attributes, with_text, closed, with_elements, with_element}
use Rattle.rpki_xml.specs.Element.{alone, elements_of}
use Rattle.rpki_xml.proofs.Drafts.{leaf_written, text_written, children_written, with_elements-joined}
use Rattle.rpki_provisioning.specs.declared.payload.Payload.{Payload}
use Rattle.rpki_provisioning.specs.declared.payload.Payload.TheVariants as payload
use Rattle.rpki_provisioning.specs.Class.{certificate_element, issuer_element, class_element}
use Rattle.rpki_provisioning.specs.Limit.{limit_attributes, set_attributes}
use Rattle.rpki_provisioning.specs.Message.{NAMESPACE, shape_type, payload_elements, element_of, shape_element}
use Rattle.rpki_provisioning.specs.NotPerformed.{status_element, description_elements, not_performed_elements}
use Rattle.rpki_provisioning.specs.Request.{request_element, key_element}
use Rattle.rpki_provisioning.specs.Shape.{MessageFields, payload_type_of, payload_shape}

pub issuer_written : (octets text : List ℕ) (d d1 d2 d3 : Draft) → text ≡ encode_of standard octets → d1 ≡ opened (codes "issuer") d → d2 ≡ with_text text d1 → d3 ≡ closed d2
    → d3 ≡ with_element (issuer_element octets) d
issuer_written octets text d d1 d2 d3 t e1 e2 e3 = rw (e3, e2, e1, t) (text_written (issuer_element octets).head d)

pub certificate_written : (c : IssuedOf (List ℕ)) (url text : List ℕ) (limit : LimitFields) (d d1 d2 d3 d4 d5 : Draft) → url ≡ c.uri → limit ≡ c.req_limit → text ≡ encode_of standard c.cert
    → d1 ≡ opened (codes "certificate") d → d2 ≡ with_attribute (codes "cert_url") url d1 → d3 ≡ with_attributes (limit_attributes limit) d2 → d4 ≡ with_text text d3 → d5 ≡ closed d4
    → d5 ≡ with_element (certificate_element c) d
certificate_written c url text limit d d1 d2 d3 d4 d5 u l t e1 e2 e3 e4 e5 = rw (e5, e4, e3, e2, e1, u, l, t) (text_written (certificate_element c).head d)

pub request_written : (a : AskedOf (List ℕ)) (name text : List ℕ) (limit : LimitFields) (d d1 d2 d3 d4 d5 : Draft) → name ≡ a.class_name → limit ≡ a.limit → text ≡ encode_of standard a.csr
    → d1 ≡ opened (codes "request") d → d2 ≡ with_attribute (codes "class_name") name d1 → d3 ≡ with_attributes (limit_attributes limit) d2 → d4 ≡ with_text text d3 → d5 ≡ closed d4
    → d5 ≡ with_element (request_element a) d
request_written a name text limit d d1 d2 d3 d4 d5 u l t e1 e2 e3 e4 e5 = rw (e5, e4, e3, e2, e1, u, l, t) (text_written (request_element a).head d)

pub key_written : (k : KeyElementFields) (name ski : List ℕ) (d d1 d2 d3 d4 : Draft) → name ≡ k.class_name → ski ≡ encode_of url_safe_no_pad k.key
    → d1 ≡ opened (codes "key") d → d2 ≡ with_attribute (codes "class_name") name d1 → d3 ≡ with_attribute (codes "ski") ski d2 → d4 ≡ closed d3 → d4 ≡ with_element (key_element k) d
key_written k name ski d d1 d2 d3 d4 u s e1 e2 e3 e4 = rw (e4, e3, e2, e1, u, s) (leaf_written (key_element k).head d refl)

-- a class, of certificates that were written before its issuer
pub class_written : (c : ClassOf (List ℕ)) (name url until issuer : List ℕ) (set : Resources) (certs : List (IssuedOf (List ℕ))) (d d1 d2 d3 d4 d5 d6 d7 d8 : Draft) → name ≡ c.class_name
    → url ≡ c.signing_cert.url → set ≡ c.resource_set
    → until ≡ rfc3339_text (civil_at c.not_after) → certs ≡ c.issued_certs → issuer ≡ c.signing_cert.cert
    → d1 ≡ opened (codes "class") d → d2 ≡ with_attribute (codes "class_name") name d1 → d3 ≡ with_attribute (codes "cert_url") url d2 → d4 ≡ with_attributes (set_attributes set) d3
    → d5 ≡ with_attribute (codes "resource_set_notafter") until d4
    → d6 ≡ with_elements (elements_of certificate_element certs) d5 → d7 ≡ with_element (issuer_element issuer) d6 → d8 ≡ closed d7 → d8 ≡ with_element (class_element c) d
class_written c name url until issuer set certs d d1 d2 d3 d4 d5 d6 d7 d8 n u s t h i e1 e2 e3 e4 e5 e6 e7 e8 =
    let inside : d7 ≡ with_elements (class_element c).children d5 = rw (e7, e6, h, i)
    (with_elements-joined (elements_of certificate_element c.issued_certs) (alone (issuer_element c.signing_cert.cert)) d5) in
    rw (e8, inside, e5, e4, e3, e2, e1, n, u, s, t) (children_written (class_element c).head (class_element c).children d refl)

pub status_written : (status : ℕ) (text : List ℕ) (d d1 d2 d3 : Draft) → text ≡ decimal status → d1 ≡ opened (codes "status") d → d2 ≡ with_text text d1 → d3 ≡ closed d2
    → d3 ≡ with_element (status_element status) d
status_written status text d d1 d2 d3 t e1 e2 e3 = rw (e3, e2, e1, t) (text_written (status_element status).head d)

-- only a status
pub status_alone : (r : NotPerformedFields) (d d' : Draft) → r.description ≡ None → d' ≡ with_element (status_element r.status) d → d' ≡ with_elements (not_performed_elements r) d
status_alone r d d' h e = rw h e

-- a description behind it
pub described : (r : NotPerformedFields) (text : List ℕ) (d d0 d1 d2 d3 : Draft) → r.description ≡ Some text → d0 ≡ with_element (status_element r.status) d
    → d1 ≡ opened (codes "description") d0 → d2 ≡ with_text text d1 → d3 ≡ closed d2 → d3 ≡ with_elements (not_performed_elements r) d
described r text d d0 d1 d2 d3 h e0 e1 e2 e3 =
    rw (e3, e2, e1) refl ∙ text_written (record { name = codes "description"; namespace = None; attributes = []; text = text }) d0
    ∙ ap (λ (x : Draft). with_elements (description_elements (Some text)) x) e0 ∙ with_elements-joined (alone (status_element r.status)) (description_elements (Some text)) d
    ∙ rw h refl

pub type_is : (p : Payload) → shape_type (payload_shape p) ≡ payload_type_of p
unfolding payload_shape
type_is payload.List = refl
type_is (payload.ListResponse classes) = refl
type_is (payload.Issue request) = refl
type_is (payload.IssueResponse response) = refl
type_is (payload.Revoke request) = refl
type_is (payload.RevokeResponse response) = refl
type_is (payload.ErrorResponse response) = refl

pub message_written : (m : MessageFields) (sender recipient type : List ℕ) (p : Payload) (d d1 d2 d3 d4 d5 d6 d7 d8 : Draft) → sender ≡ m.sender → recipient ≡ m.recipient
    → type ≡ payload_type_text (payload_type_of m.payload) → p ≡ m.payload
    → d1 ≡ opened (codes "message") d → d2 ≡ with_attribute (codes "xmlns") NAMESPACE d1 → d3 ≡ with_attribute (codes "version") (codes "1") d2 → d4 ≡ with_attribute (codes "sender") sender d3
    → d5 ≡ with_attribute (codes "recipient") recipient d4
    → d6 ≡ with_attribute (codes "type") type d5 → d7 ≡ with_elements (payload_elements (payload_shape p)) d6 → d8 ≡ closed d7 → d8 ≡ with_element (element_of m) d
unfolding shape_element
message_written m sender recipient type p d d1 d2 d3 d4 d5 d6 d7 d8 s r t q e1 e2 e3 e4 e5 e6 e7 e8 =
    let e = shape_element (record { sender = m.sender; recipient = m.recipient; payload = payload_shape m.payload }) in
    let t' : type ≡ payload_type_text (shape_type (payload_shape m.payload)) = t ∙ ap payload_type_text (sym (type_is m.payload)) in
    rw (e8, e7, e6, e5, e4, e3, e2, e1, s, r, t', q) (children_written e.head e.children d refl)
