-- What is written of a writable message is read again.
use Rattle.std.proofs.Common.{◌≡◌, ℕ, ◌^◌, ◌<◌, List, [], ◌∷◌, Option, Some, None, map, filter, refl, IfSome}
use Rattle.std.specs.List.{AllByRecursion}
use Rattle.base64.specs.GeneralPurpose.{IsBytes}
use Rattle.rpki_base.proofs.Offsets.{rfc3339_again}
use Rattle.rpki_common.specs.Chaining.{◌>>=◌}
use Rattle.rpki_common.specs.Items as items
use Rattle.rpki_xmltext.specs.Parts.{required_by}
use Rattle.rpki_xmltext.proofs.Uris.{uri_is}
use Rattle.rpki_sets.specs.declared.run.Run.{Run}
use Rattle.rpki_sets.specs.Runs.{IsSet}
use Rattle.rpki_sets.specs.Texts.{read_all}
use Rattle.rpki_sets.proofs.Printed.{as_read_again, ipv4_read_again, ipv6_read_again}
use Rattle.rpki_text.specs.Handle.{IsHandle}
use Rattle.rpki_text.specs.Uri.{rsync, fault_of}
use Rattle.rpki_text.proofs.Base64Laws.{base64_content-encode}
use Rattle.rpki_text.proofs.HandleLaws.{handle_of_text-some}
use Rattle.rpki_text.proofs.KeyIdentifierLaws.{key_identifier-plain}
use Rattle.rpki_updown.specs.Entitlements.{IssuedOf, SigningOf, ClassOf, IssuanceOf, AskedOf, IssuedFields, ClassFields, IssuanceFields, IssuanceRequestFields, issued_with, signing_with, class_with, issuance_with, asked_with}
use Rattle.rpki_updown.specs.KeyElement.{KeyElementFields}
use Rattle.rpki_updown.specs.PayloadType.{payload_type_text}
use Rattle.rpki_updown.specs.declared.payload_type.PayloadType.{PayloadType}
use Rattle.rpki_updown.proofs.Again.{kind_again}
use Rattle.rpki_xml.specs.Element.{Elements, alone, joined_elements, listed, elements_of}
use Rattle.rpki_xml.specs.Tables.{only_listed, optional, optional_by, required, given_or_absent, each_of}
use Rattle.rpki_provisioning.specs.declared.payload.Payload.{Payload}
use Rattle.rpki_provisioning.specs.declared.payload.Payload.TheVariants as payload
use Rattle.rpki_provisioning.specs.Class.{certificate_element, certificate_in, issuer_element, issuer_in, class_element, class_in, class_start_in, class_of_issuance, is_certificate, is_issuer, is_inside, certificates_in, issuance_of_class, issuance_in}
use Rattle.rpki_provisioning.specs.Limit.{limit_in, set_in, resources_in}
use Rattle.rpki_provisioning.specs.Message.{shape_type, payload_elements, payload_in, root_element, message_root_in, shape_element, shape_in, element_of, message_of}
use Rattle.rpki_provisioning.specs.NotPerformed.{status_in, description_in, not_performed_elements, not_performed_in}
use Rattle.rpki_provisioning.specs.Request.{request_element, request_in, key_element, key_in}
use Rattle.rpki_provisioning.specs.Shape.{MessageFields, shape_of, certificate_octets, certificate_of, request_octets, request_of, payload_shape, issued_by, signing_by, class_by, issuance_by, asked_by, payload_of_shape, message_of_shape}
use Rattle.rpki_provisioning.specs.Writable.{IsWritableIssued, IsWritableClass, IsWritableIssuance, IsWritableRequest, IsWritableKey, IsWritablePayload, IsWritable}
use Rattle.rpki_provisioning.proofs.Statuses.{decimal_read}

-- ---- certificates and requests, with what is asked for

certificate_read : (n o : List ℕ) (asn ipv4 ipv6 : Option (List Run)) → fault_of rsync n ≡ None → IfSome asn (IsSet 32) → IfSome ipv4 (IsSet 32) → IfSome ipv6 (IsSet 128) → IsBytes o
    → certificate_in (certificate_element (record { uri = n; req_limit = record { asn = asn; ipv4 = ipv4; ipv6 = ipv6 }; cert = o })) ≡ Some (record { uri = n; req_limit = record { asn = asn; ipv4 = ipv4; ipv6 = ipv6 }; cert = o })
unfolding certificate_in optional_by required required_by only_listed items.only items.at_most_one items.the_one optional limit_in ◌>>=◌
certificate_read n o None None None h i j k b = rw (uri_is rsync n h, base64_content-encode o b) refl
certificate_read n o None None (Some z) h i j k b = rw (uri_is rsync n h, ipv6_read_again z k, base64_content-encode o b) refl
certificate_read n o None (Some y) None h i j k b = rw (uri_is rsync n h, ipv4_read_again y j, base64_content-encode o b) refl
certificate_read n o None (Some y) (Some z) h i j k b = rw (uri_is rsync n h, ipv4_read_again y j, ipv6_read_again z k, base64_content-encode o b) refl
certificate_read n o (Some x) None None h i j k b = rw (uri_is rsync n h, as_read_again x i, base64_content-encode o b) refl
certificate_read n o (Some x) None (Some z) h i j k b = rw (uri_is rsync n h, as_read_again x i, ipv6_read_again z k, base64_content-encode o b) refl
certificate_read n o (Some x) (Some y) None h i j k b = rw (uri_is rsync n h, as_read_again x i, ipv4_read_again y j, base64_content-encode o b) refl
certificate_read n o (Some x) (Some y) (Some z) h i j k b = rw (uri_is rsync n h, as_read_again x i, ipv4_read_again y j, ipv6_read_again z k, base64_content-encode o b) refl

certificate_again : (c : IssuedFields) → IsWritableIssued c → certificate_in (certificate_element (issued_with certificate_octets c)) ≡ Some (issued_with certificate_octets c)
certificate_again c h = certificate_read c.uri (certificate_octets c.cert) c.req_limit.asn c.req_limit.ipv4 c.req_limit.ipv6 h.uri h.req_limit.asn h.req_limit.ipv4 h.req_limit.ipv6 h.cert.octets

request_read : (n o : List ℕ) (asn ipv4 ipv6 : Option (List Run)) → IfSome asn (IsSet 32) → IfSome ipv4 (IsSet 32) → IfSome ipv6 (IsSet 128) → IsBytes o
    → request_in (request_element (record { class_name = n; limit = record { asn = asn; ipv4 = ipv4; ipv6 = ipv6 }; csr = o })) ≡ Some (record { class_name = n; limit = record { asn = asn; ipv4 = ipv4; ipv6 = ipv6 }; csr = o })
unfolding request_in optional_by required required_by only_listed items.only items.at_most_one items.the_one optional limit_in ◌>>=◌
request_read n o None None None i j k b = rw (base64_content-encode o b) refl
request_read n o None None (Some z) i j k b = rw (ipv6_read_again z k, base64_content-encode o b) refl
request_read n o None (Some y) None i j k b = rw (ipv4_read_again y j, base64_content-encode o b) refl
request_read n o None (Some y) (Some z) i j k b = rw (ipv4_read_again y j, ipv6_read_again z k, base64_content-encode o b) refl
request_read n o (Some x) None None i j k b = rw (as_read_again x i, base64_content-encode o b) refl
request_read n o (Some x) None (Some z) i j k b = rw (as_read_again x i, ipv6_read_again z k, base64_content-encode o b) refl
request_read n o (Some x) (Some y) None i j k b = rw (as_read_again x i, ipv4_read_again y j, base64_content-encode o b) refl
request_read n o (Some x) (Some y) (Some z) i j k b = rw (as_read_again x i, ipv4_read_again y j, ipv6_read_again z k, base64_content-encode o b) refl

request_again : (a : IssuanceRequestFields) → IsWritableRequest a → request_in (request_element (asked_with request_octets a)) ≡ Some (asked_with request_octets a)
request_again a h = request_read a.class_name (request_octets a.csr) a.limit.asn a.limit.ipv4 a.limit.ipv6 h.limit.asn h.limit.ipv4 h.limit.ipv6 h.csr.octets

key_again : (k : KeyElementFields) → IsWritableKey k → key_in (key_element k) ≡ Some k
unfolding key_in only_listed items.only required required_by items.the_one ◌>>=◌
key_again k h = rw (key_identifier-plain k.key h.octets h.count) refl

-- ---- classes

-- what stands in a class
abbrev inside : List IssuedFields → List ℕ → Elements
inside list o = joined_elements (elements_of certificate_element (map (issued_with certificate_octets) list)) (alone (issuer_element o))

only_inside : (list : List IssuedFields) (o : List ℕ) → items.only is_inside (listed (inside list o)) ≡ Some tt
unfolding items.only
only_inside [] o = refl
only_inside (c ∷ list) o = only_inside list o

certificates_again : (list : List IssuedFields) (o : List ℕ) → AllByRecursion IsWritableIssued list
    → read_all certificate_in (filter is_certificate (listed (inside list o))) ≡ Some (map (issued_with certificate_octets) list)
unfolding read_all ◌>>=◌
certificates_again [] o h = refl
certificates_again (c ∷ list) o h = rw (certificate_again c h.0, certificates_again list o h.1) refl

issuer_again : (list : List IssuedFields) (o : List ℕ) → IsBytes o → items.the_one issuer_in (filter is_issuer (listed (inside list o))) ≡ Some o
unfolding items.the_one issuer_in ◌>>=◌
issuer_again [] o h = rw (base64_content-encode o h) refl
issuer_again (c ∷ list) o h = issuer_again list o h

inside_again : (list : List IssuedFields) (o : List ℕ) → AllByRecursion IsWritableIssued list → IsBytes o
    → certificates_in (inside list o) ≡ Some (record { issued = map (issued_with certificate_octets) list; issuer = o })
unfolding certificates_in ◌>>=◌
inside_again list o h b = rw (only_inside list o, certificates_again list o h, issuer_again list o b) refl

class_again : (c : ClassFields) → IsWritableClass c → class_in (class_element (class_with certificate_octets c)) ≡ Some (class_with certificate_octets c)
unfolding class_in class_start_in only_listed items.only optional optional_by required required_by items.at_most_one items.the_one resources_in set_in ◌>>=◌
class_again c h =
    rw (
      uri_is rsync c.signing_cert.url h.signing_cert.url,
      as_read_again c.resource_set.asn h.resource_set.asn,
      ipv4_read_again c.resource_set.ipv4 h.resource_set.ipv4,
      ipv6_read_again c.resource_set.ipv6 h.resource_set.ipv6,
      rfc3339_again c.not_after h.not_after,
      inside_again c.issued_certs (certificate_octets c.signing_cert.cert) h.issued_certs
          h.signing_cert.cert.octets,
    )
    refl

classes_again : (list : List ClassFields) → AllByRecursion IsWritableClass list
    → each_of class_in (elements_of class_element (map (class_with certificate_octets) list)) ≡ Some (map (class_with certificate_octets) list)
unfolding each_of ◌>>=◌
classes_again [] h = refl
classes_again (c ∷ list) h = rw (class_again c h.0, classes_again list h.1) refl

-- what is issued, as a class with one certificate
pub of_one : (i : IssuanceFields) → IsWritableIssuance i → IsWritableClass (class_of_issuance i)
of_one i h = record { class_name = h.class_name; resource_set = h.resource_set; not_after = h.not_after; issued_certs = (h.issued_cert, tt); signing_cert = h.signing_cert }

issuance_again : (i : IssuanceFields) → IsWritableIssuance i → issuance_in (class_element (class_of_issuance (issuance_with certificate_octets i))) ≡ Some (issuance_with certificate_octets i)
unfolding issuance_in issuance_of_class items.the_one ◌>>=◌
issuance_again i h = rw (class_again (class_of_issuance i) (of_one i h)) refl

-- ---- what was not performed

not_performed_of : (status : ℕ) (text : Option (List ℕ)) → status < 2 ^ 64
    → not_performed_in (not_performed_elements (record { status = status; description = text })) ≡ Some (record { status = status; description = text })
unfolding not_performed_in status_in description_in ◌>>=◌
not_performed_of status None h = rw (decimal_read status h) refl
not_performed_of status (Some text) h = rw (decimal_read status h) refl

-- ---- step one: the shape

inside_shape : (p : Payload) → IsWritablePayload p → payload_in (shape_type (payload_shape p)) (payload_elements (payload_shape p)) ≡ Some (payload_shape p)
unfolding payload_in payload_elements payload_shape ◌>>=◌
inside_shape payload.List h = refl
inside_shape (payload.ListResponse classes) h = rw (classes_again classes h) refl
inside_shape (payload.Issue request) h = rw (request_again request h) refl
inside_shape (payload.IssueResponse response) h = rw (issuance_again response h) refl
inside_shape (payload.Revoke request) h = rw (key_again request h) refl
inside_shape (payload.RevokeResponse response) h = rw (key_again response h) refl
inside_shape (payload.ErrorResponse response) h = rw (not_performed_of response.status response.description h.status) refl

root_again : (s r : List ℕ) (t : PayloadType) (children : Elements) → IsHandle s → IsHandle r
    → message_root_in (root_element s r (payload_type_text t) children) ≡ Some (record { sender = s; recipient = r; payload = t })
unfolding message_root_in only_listed items.only optional required required_by given_or_absent items.at_most_one items.the_one ◌>>=◌
root_again s r t children h i = rw (handle_of_text-some s h, handle_of_text-some r i, kind_again t) refl

shape_again : (m : MessageFields) → IsWritable m → shape_in (shape_element (shape_of m)) ≡ Some (shape_of m)
unfolding shape_in shape_element ◌>>=◌
shape_again m h = rw (root_again m.sender m.recipient (shape_type (payload_shape m.payload)) (payload_elements (payload_shape m.payload)) h.sender h.recipient, inside_shape m.payload h.payload) refl

-- ---- step two: certificates and requests

module _ {C : Type 0} (f : List ℕ → Option C) (g : C → List ℕ) where
  issued_back : (c : IssuedOf C) → f (g c.cert) ≡ Some c.cert → issued_by f (issued_with g c) ≡ Some c
  unfolding issued_by ◌>>=◌
  issued_back c h = rw h refl

  signing_back : (c : SigningOf C) → f (g c.cert) ≡ Some c.cert → signing_by f (signing_with g c) ≡ Some c
  unfolding signing_by ◌>>=◌
  signing_back c h = rw h refl

  all_back : (P : IssuedOf C → Type 0) → ((c : IssuedOf C) → P c → f (g c.cert) ≡ Some c.cert) → (list : List (IssuedOf C)) → AllByRecursion P list
      → read_all (issued_by f) (map (issued_with g) list) ≡ Some list
  unfolding read_all ◌>>=◌
  all_back P each [] h = refl
  all_back P each (c ∷ list) h = rw (issued_back c (each c h.0), all_back P each list h.1) refl

  class_back : (c : ClassOf C) → read_all (issued_by f) (map (issued_with g) c.issued_certs) ≡ Some c.issued_certs → f (g c.signing_cert.cert) ≡ Some c.signing_cert.cert
      → class_by f (class_with g c) ≡ Some c
  unfolding class_by ◌>>=◌
  class_back c h k = rw (h, signing_back c.signing_cert k) refl

  issuance_back : (i : IssuanceOf C) → f (g i.issued_cert.cert) ≡ Some i.issued_cert.cert → f (g i.signing_cert.cert) ≡ Some i.signing_cert.cert → issuance_by f (issuance_with g i) ≡ Some i
  unfolding issuance_by ◌>>=◌
  issuance_back i h k = rw (issued_back i.issued_cert h, signing_back i.signing_cert k) refl

  asked_back : (a : AskedOf C) → f (g a.csr) ≡ Some a.csr → asked_by f (asked_with g a) ≡ Some a
  unfolding asked_by ◌>>=◌
  asked_back a h = rw h refl

classes_back : (list : List ClassFields) → AllByRecursion IsWritableClass list → read_all (class_by certificate_of) (map (class_with certificate_octets) list) ≡ Some list
unfolding read_all ◌>>=◌
classes_back [] h = refl
classes_back (c ∷ list) h =
    let issued = all_back certificate_of certificate_octets IsWritableIssued (λ i w. w.cert.read) c.issued_certs h.0.issued_certs in
    rw (class_back certificate_of certificate_octets c issued h.0.signing_cert.cert.read, classes_back list h.1) refl

payload_back : (p : Payload) → IsWritablePayload p → payload_of_shape (payload_shape p) ≡ Some p
unfolding payload_of_shape payload_shape ◌>>=◌
payload_back payload.List h = refl
payload_back (payload.ListResponse classes) h = rw (classes_back classes h) refl
payload_back (payload.Issue request) h = rw (asked_back request_of request_octets request h.csr.read) refl
payload_back (payload.IssueResponse response) h = rw (issuance_back certificate_of certificate_octets response h.issued_cert.cert.read h.signing_cert.cert.read) refl
payload_back (payload.Revoke request) h = refl
payload_back (payload.RevokeResponse response) h = refl
payload_back (payload.ErrorResponse response) h = refl

message_back : (m : MessageFields) → IsWritable m → message_of_shape (shape_of m) ≡ Some m
unfolding message_of_shape ◌>>=◌
message_back m h = rw (payload_back m.payload h.payload) refl

-- ---- messages

pub message_again : (m : MessageFields) → IsWritable m → message_of (element_of m) ≡ Some m
unfolding message_of ◌>>=◌
message_again m h = rw (shape_again m h, message_back m h) refl
