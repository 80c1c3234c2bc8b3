-- The elements that writable messages are written as are plain: they are read again.
use Rattle.std.proofs.Common.{◌≡◌, ℕ, true, false, List, [], ◌∷◌, ◌++◌, Option, Some, None, map, refl, IfSome}
use Rattle.std.specs.Prelude.{codes}
use Rattle.std.specs.Fmt.{decimal}
use Rattle.std.specs.List.{list_all, AllByRecursion}
use Rattle.std.specs.Option.{option_map}
use Rattle.std.specs.Str.{bytes_eq}
use Rattle.base64.specs.Engines.{standard, url_safe_no_pad}
use Rattle.base64.specs.GeneralPurpose.{encode_of, IsBytes}
use Rattle.rpki_base.specs.Civil.{civil_at}
use Rattle.rpki_base.specs.TimeText.{rfc3339_text}
use Rattle.rpki_xmltext.specs.Parts.{attribute}
use Rattle.rpki_xmltext.proofs.Base64s.{encode-trimmed, encode-octets}
use Rattle.rpki_xmltext.proofs.Plain.{attribute_plain, uri_plain, leaf_plain}
use Rattle.rpki_xmltext.proofs.Uris.{handle_octets}
use Rattle.rpki_sets.specs.declared.run.Run.{Run}
use Rattle.rpki_sets.specs.AsNumbers.{as_text}
use Rattle.rpki_sets.specs.Ipv4Addresses.{ipv4_blocks_text}
use Rattle.rpki_sets.specs.Ipv6Addresses.{ipv6_blocks_text}
use Rattle.rpki_sets.specs.Runs.{IsSet}
use Rattle.rpki_text.specs.Handle.{IsHandle}
use Rattle.rpki_text.specs.Uri.{rsync}
use Rattle.rpki_updown.specs.Entitlements.{IssuedFields, ClassFields, IssuanceFields, IssuanceRequestFields, issued_with, class_with, issuance_with, asked_with}
use Rattle.rpki_updown.specs.KeyElement.{KeyElementFields}
use Rattle.rpki_updown.specs.NotPerformedResponse.{NotPerformedFields}
use Rattle.rpki_updown.specs.PayloadType.{payload_type_text}
use Rattle.rpki_updown.specs.RequestResourceLimit.{LimitFields}
use Rattle.rpki_updown.specs.declared.payload_type.PayloadType.{PayloadType}
use Rattle.rpki_updown.specs.declared.payload_type.PayloadType.TheVariants as kind
use Rattle.rpki_xml.specs.Content.{is_declaration, is_distinct, trimmed}
use Rattle.rpki_xml.specs.Draft.{optional_attribute}
use Rattle.rpki_xml.specs.Element.{Attribute, Elements, none, first, alone, joined_elements, elements_of}
use Rattle.rpki_xml.specs.Lettered.{AreOctets}
use Rattle.rpki_xml.specs.Name.{behind_colon, is_name, is_name_octet}
use Rattle.rpki_xml.specs.PlainElement.{IsPlainName, IsPlainAttribute, IsPlainHead, ArePlain}
use Rattle.rpki_xml.proofs.Octets.{written_is_read}
use Rattle.rpki_provisioning.specs.declared.payload.Payload.{Payload}
use Rattle.rpki_provisioning.specs.declared.payload.Payload.TheVariants as payload
use Rattle.rpki_provisioning.specs.Class.{certificate_element, issuer_element, class_element, class_of_issuance}
use Rattle.rpki_provisioning.specs.Limit.{limit_attributes}
use Rattle.rpki_provisioning.specs.Message.{root_element, shape_element, shape_type, payload_elements, element_of, text_of, Reads}
use Rattle.rpki_provisioning.specs.NotPerformed.{description_elements, not_performed_elements}
use Rattle.rpki_provisioning.specs.Request.{request_element, key_element}
use Rattle.rpki_provisioning.specs.Shape.{MessageFields, certificate_octets, request_octets, payload_shape}
use Rattle.rpki_provisioning.specs.Writable.{IsWritableLimit, IsWritableIssued, IsWritableClass, IsWritableIssuance, IsWritableRequest, IsWritableKey, IsWritableNotPerformed, IsWritablePayload, IsWritable}
use Rattle.rpki_provisioning.proofs.Again.{of_one, message_again}
use Rattle.rpki_provisioning.proofs.Octets.{as_octets, ipv4_octets, ipv6_octets, stated_octets, time_octets, key_octets, number_octets, number_trimmed}

named : (name : List ℕ) → is_name name ≡ true → list_all is_name_octet name ≡ true → behind_colon name ≡ None → IsPlainName name
named name l o p = record { lawful = l; octets = o; plain = p }

-- ---- what is asked for

both_plain : (front back : List Attribute) → AllByRecursion IsPlainAttribute front → AllByRecursion IsPlainAttribute back → AllByRecursion IsPlainAttribute (front ++ back)
both_plain [] back f b = b
both_plain (a ∷ front) back f b = (f.0, both_plain front back f.1 b)

optional_plain : (name : List ℕ) (value : Option (List ℕ)) → IsPlainName name → ((text : List ℕ) → is_declaration (attribute name text) ≡ false) → IfSome value AreOctets
    → AllByRecursion IsPlainAttribute (optional_attribute name value)
optional_plain name None n d h = tt
optional_plain name (Some text) n d h = (attribute_plain name text n (d text) h, tt)

limit_plain : (l : LimitFields) → IsWritableLimit l → AllByRecursion IsPlainAttribute (limit_attributes l)
unfolding is_declaration
limit_plain l h =
    both_plain (optional_attribute (codes "req_resource_set_as") (option_map as_text l.asn)) _
    (optional_plain (codes "req_resource_set_as") (option_map as_text l.asn) (named _ refl refl refl) (λ t. refl) (stated_octets as_text (IsSet 32) as_octets l.asn h.asn))
    (both_plain (optional_attribute (codes "req_resource_set_ipv4") (option_map ipv4_blocks_text l.ipv4)) _
    (optional_plain (codes "req_resource_set_ipv4") (option_map ipv4_blocks_text l.ipv4) (named _ refl refl refl) (λ t. refl) (stated_octets ipv4_blocks_text (IsSet 32) ipv4_octets l.ipv4 h.ipv4))
    (optional_plain (codes "req_resource_set_ipv6") (option_map ipv6_blocks_text l.ipv6) (named _ refl refl refl) (λ t. refl) (stated_octets ipv6_blocks_text (IsSet 128) ipv6_octets l.ipv6 h.ipv6)))

-- no name stands twice, also behind the one that stands first
limit_distinct : (name text : List ℕ) (asn ipv4 ipv6 : Option (List Run)) → bytes_eq name (codes "req_resource_set_as") ≡ false → bytes_eq name (codes "req_resource_set_ipv4") ≡ false
    → bytes_eq name (codes "req_resource_set_ipv6") ≡ false
    → is_distinct (attribute name text ∷ limit_attributes (record { asn = asn; ipv4 = ipv4; ipv6 = ipv6 })) ≡ true
limit_distinct name text None None None h i j = refl
limit_distinct name text None None (Some z) h i j = rw j refl
limit_distinct name text None (Some y) None h i j = rw i refl
limit_distinct name text None (Some y) (Some z) h i j = rw (i, j) refl
limit_distinct name text (Some x) None None h i j = rw h refl
limit_distinct name text (Some x) None (Some z) h i j = rw (h, j) refl
limit_distinct name text (Some x) (Some y) None h i j = rw (h, i) refl
limit_distinct name text (Some x) (Some y) (Some z) h i j = rw (h, i, j) refl

-- ---- certificates and classes

certificate_plain : (c : IssuedFields) → IsWritableIssued c → IsPlainHead (certificate_element (issued_with certificate_octets c)).head
unfolding is_declaration
certificate_plain c h =
    leaf_plain (codes "certificate") (attribute (codes "cert_url") c.uri ∷ limit_attributes c.req_limit) (encode_of standard (certificate_octets c.cert)) (named _ refl refl refl)
    (uri_plain rsync (codes "cert_url") c.uri (named _ refl refl refl) refl h.uri, limit_plain c.req_limit h.req_limit)
    (limit_distinct (codes "cert_url") c.uri c.req_limit.asn c.req_limit.ipv4 c.req_limit.ipv6 refl refl refl) (encode-trimmed (certificate_octets c.cert))
    (encode-octets (certificate_octets c.cert) h.cert.octets)

issuer_plain : (o : List ℕ) → IsBytes o → IsPlainHead (issuer_element o).head
issuer_plain o b = leaf_plain (codes "issuer") [] (encode_of standard o) (named _ refl refl refl) tt refl (encode-trimmed o) (encode-octets o b)

inside_plain : (list : List IssuedFields) (o : List ℕ) → AllByRecursion IsWritableIssued list → IsBytes o
    → ArePlain (joined_elements (elements_of certificate_element (map (issued_with certificate_octets) list)) (alone (issuer_element o)))
inside_plain [] o h b = (issuer_plain o b, ((λ e. absurd cc), (tt, tt)))
inside_plain (c ∷ list) o h b = (certificate_plain c h.0, ((λ e. absurd cc), (tt, inside_plain list o h.1 b)))

class_head : (c : ClassFields) → IsWritableClass c → IsPlainHead (class_element (class_with certificate_octets c)).head
unfolding is_declaration trimmed
class_head c h =
    leaf_plain (codes "class") _ [] (named _ refl refl refl) (
      attribute_plain (codes "class_name") c.class_name (named _ refl refl refl) refl h.class_name,
      (
        uri_plain rsync (codes "cert_url") c.signing_cert.url (named _ refl refl refl) refl h.signing_cert.url,
        (
          attribute_plain (codes "resource_set_as") (as_text c.resource_set.asn) (named _ refl refl refl) refl (as_octets c.resource_set.asn h.resource_set.asn),
          (
            attribute_plain (codes "resource_set_ipv4") (ipv4_blocks_text c.resource_set.ipv4) (named _ refl refl refl) refl (ipv4_octets c.resource_set.ipv4 h.resource_set.ipv4),
            (
              attribute_plain (codes "resource_set_ipv6") (ipv6_blocks_text c.resource_set.ipv6) (named _ refl refl refl) refl (ipv6_octets c.resource_set.ipv6 h.resource_set.ipv6),
              (
                attribute_plain (codes "resource_set_notafter") (rfc3339_text (civil_at c.not_after)) (named _ refl refl refl) refl (time_octets c.not_after h.not_after),
                tt,
              ),
            ),
          ),
        ),
      ),
    )
    refl refl refl

class_plain : (c : ClassFields) (rest : Elements) → IsWritableClass c → ArePlain rest
    → ArePlain (first (class_element (class_with certificate_octets c)).head (class_element (class_with certificate_octets c)).children rest)
class_plain c rest h r = (class_head c h, ((λ e. refl), (inside_plain c.issued_certs (certificate_octets c.signing_cert.cert) h.issued_certs h.signing_cert.cert.octets, r)))

classes_plain : (list : List ClassFields) → AllByRecursion IsWritableClass list → ArePlain (elements_of class_element (map (class_with certificate_octets) list))
classes_plain [] h = tt
classes_plain (c ∷ list) h = class_plain c (elements_of class_element (map (class_with certificate_octets) list)) h.0 (classes_plain list h.1)

issuance_plain : (i : IssuanceFields) → IsWritableIssuance i → ArePlain (alone (class_element (class_of_issuance (issuance_with certificate_octets i))))
issuance_plain i h = class_plain (class_of_issuance i) none (of_one i h) tt

-- ---- requests and keys

request_plain : (a : IssuanceRequestFields) → IsWritableRequest a → ArePlain (alone (request_element (asked_with request_octets a)))
unfolding is_declaration
request_plain a h = (
  leaf_plain (codes "request") (attribute (codes "class_name") a.class_name ∷ limit_attributes a.limit) (encode_of standard (request_octets a.csr)) (named _ refl refl refl)
      (attribute_plain (codes "class_name") a.class_name (named _ refl refl refl) refl h.class_name, limit_plain a.limit h.limit)
      (limit_distinct (codes "class_name") a.class_name a.limit.asn a.limit.ipv4 a.limit.ipv6 refl refl refl) (encode-trimmed (request_octets a.csr))
      (encode-octets (request_octets a.csr) h.csr.octets),
  ((λ e. absurd cc), (tt, tt)),
)

key_plain : (k : KeyElementFields) → IsWritableKey k → ArePlain (alone (key_element k))
unfolding is_declaration trimmed
key_plain k h = (
  leaf_plain (codes "key") _ [] (named _ refl refl refl) (
    attribute_plain (codes "class_name") k.class_name (named _ refl refl refl) refl h.class_name,
    (attribute_plain (codes "ski") (encode_of url_safe_no_pad k.key) (named _ refl refl refl) refl (key_octets k.key h.octets), tt),
  ) refl refl refl,
  ((λ e. refl), (tt, tt)),
)

-- ---- what was not performed

description_plain : (text : Option (List ℕ)) → IfSome text AreOctets → IfSome text (λ t. trimmed t ≡ t) → ArePlain (description_elements text)
description_plain None h t = tt
description_plain (Some text) h t = (leaf_plain (codes "description") [] text (named _ refl refl refl) tt refl t h, ((λ e. absurd cc), (tt, tt)))

not_performed_plain : (r : NotPerformedFields) → IsWritableNotPerformed r → ArePlain (not_performed_elements r)
not_performed_plain r h = (
  leaf_plain (codes "status") [] (decimal r.status) (named _ refl refl refl) tt refl (number_trimmed r.status h.status) (number_octets r.status h.status),
  ((λ e. absurd cc), (tt, description_plain r.description h.description h.trimmed)),
)

-- ---- messages

inside_message : (p : Payload) → IsWritablePayload p → ArePlain (payload_elements (payload_shape p))
unfolding payload_elements payload_shape
inside_message payload.List h = tt
inside_message (payload.ListResponse classes) h = classes_plain classes h
inside_message (payload.Issue request) h = request_plain request h
inside_message (payload.IssueResponse response) h = issuance_plain response h
inside_message (payload.Revoke request) h = key_plain request h
inside_message (payload.RevokeResponse response) h = key_plain response h
inside_message (payload.ErrorResponse response) h = not_performed_plain response h

type_octets : (t : PayloadType) → AreOctets (payload_type_text t)
type_octets kind.List = refl
type_octets kind.ListResponse = refl
type_octets kind.Issue = refl
type_octets kind.IssueResponse = refl
type_octets kind.Revoke = refl
type_octets kind.RevokeResponse = refl
type_octets kind.ErrorResponse = refl

root_plain : (s r : List ℕ) (t : PayloadType) (children : Elements) → IsHandle s → IsHandle r → ArePlain children → ArePlain (alone (root_element s r (payload_type_text t) children))
unfolding is_declaration trimmed
root_plain s r t children h i c = (
  record {
    name = named _ refl refl refl;
    namespace = (refl, refl);
    attributes = (
      attribute_plain (codes "version") (codes "1") (named _ refl refl refl) refl refl,
      (
        attribute_plain (codes "sender") s (named _ refl refl refl) refl (handle_octets s h),
        (
          attribute_plain (codes "recipient") r (named _ refl refl refl) refl (handle_octets r i),
          (
            attribute_plain (codes "type") (payload_type_text t) (named _ refl refl refl) refl (type_octets t),
            tt,
          ),
        ),
      ),
    );
    distinct = refl;
    trimmed = refl;
    text = refl;
  },
  ((λ e. refl), (c, tt)),
)

message_plain : (m : MessageFields) → IsWritable m → ArePlain (alone (element_of m))
unfolding shape_element
message_plain m h = root_plain m.sender m.recipient (shape_type (payload_shape m.payload)) (payload_elements (payload_shape m.payload)) h.sender h.recipient (inside_message m.payload h.payload)

pub text_again : (m : MessageFields) → IsWritable m → Reads (text_of m) m
unfolding text_of
text_again m h = record { element = element_of m; document = written_is_read (element_of m) (message_plain m h); message = message_again m h }
