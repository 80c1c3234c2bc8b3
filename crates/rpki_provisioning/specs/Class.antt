-- Resource classes and the certificates in them, as elements (RFC 6492, 3.3.2 and 3.4.2). What is
-- in a certificate is not looked at here.
use Rattle.std.specs.Prelude.{ℕ, ℤ, List, [], ◌∷◌, ◌++◌, Bool, ◌||◌, Option, None, Some, filter, codes}
use Rattle.base64.specs.Engines.{standard}
use Rattle.base64.specs.GeneralPurpose.{encode_of}
use Rattle.rpki_base.specs.Civil.{civil_at}
use Rattle.rpki_base.specs.Rfc3339.{rfc3339_time}
use Rattle.rpki_base.specs.TimeText.{rfc3339_text}
use Rattle.rpki_common.specs.Chaining.{◌>>=◌}
use Rattle.rpki_common.specs.Items as items
use Rattle.rpki_xmltext.specs.Parts.{attribute, leaf, required_by}
use Rattle.rpki_xmltext.specs.UriText.{uri_of_text}
use Rattle.rpki_sets.specs.Resources.{Resources}
use Rattle.rpki_sets.specs.Texts.{read_all}
use Rattle.rpki_text.specs.Base64.{base64_content}
use Rattle.rpki_text.specs.Uri.{rsync}
use Rattle.rpki_updown.specs.Entitlements.{IssuedOf, ClassOf, IssuanceOf}
use Rattle.rpki_xml.specs.Element.{Head, Element, Elements, joined_elements, alone, elements_of, listed, is_none, is_nil}
use Rattle.rpki_xml.specs.Tables.{require, is_named, only_listed, optional, required}
use Rattle.rpki_provisioning.specs.Limit.{limit_attributes, limit_in, set_attributes, resources_in}

-- ---- certificates that were issued

-- the `certificate` that is written: its URI, what was asked for it, and its octets in base64
abbrev pub certificate_element : IssuedOf (List ℕ) → Element
certificate_element c =
    leaf (codes "certificate") (attribute (codes "cert_url") c.uri ∷ limit_attributes c.req_limit)
    (encode_of standard c.cert)

-- the attributes that a `certificate` may have
abbrev pub certificate_attributes : List (List ℕ)
certificate_attributes =
    codes "cert_url"
    ∷ codes "req_resource_set_as"
    ∷ codes "req_resource_set_ipv4"
    ∷ codes "req_resource_set_ipv6"
    ∷ []

-- a `certificate` with a URI, what was asked for it, a base64 text and no child
unfoldable pub certificate_in : Element → Option (IssuedOf (List ℕ))
certificate_in e = do
  _ ← require (is_named (codes "certificate") e.head)
  _ ← require (is_none e.children)
  _ ← only_listed certificate_attributes e.head
  uri ← required_by (uri_of_text rsync) (codes "cert_url") e.head
  limit ← limit_in e.head
  octets ← base64_content e.head.text
  Some (record { uri = uri; req_limit = limit; cert = octets })

-- ---- the certificate of the issuing key

-- the `issuer` that is written: the octets of the issuing key's certificate in base64
abbrev pub issuer_element : List ℕ → Element
issuer_element octets = leaf (codes "issuer") [] (encode_of standard octets)

-- an `issuer` with a base64 text and no child; its attributes are not looked at
unfoldable pub issuer_in : Element → Option (List ℕ)
issuer_in e = do
  _ ← require (is_named (codes "issuer") e.head)
  _ ← require (is_none e.children)
  base64_content e.head.text

-- ---- classes

-- the issuing key's certificate stands last
abbrev pub class_children : ClassOf (List ℕ) → Elements
class_children c =
    joined_elements (elements_of certificate_element c.issued_certs)
    (alone (issuer_element c.signing_cert.cert))

-- the `class` that is written: name, URI of the issuing key's certificate, the three sets and the
-- time as attributes, and the certificates in it
abbrev pub class_element : ClassOf (List ℕ) → Element
class_element c = record {
  head = record {
    name = codes "class";
    namespace = None;
    attributes =
        attribute (codes "class_name") c.class_name
        ∷ attribute (codes "cert_url") c.signing_cert.url
        ∷ (set_attributes c.resource_set
        ++ attribute (codes "resource_set_notafter") (rfc3339_text (civil_at c.not_after)) ∷ []);
    text = [];
  };
  children = class_children c;
}

-- the attributes that a `class` may have
abbrev pub class_attributes : List (List ℕ)
class_attributes =
    codes "class_name"
    ∷ codes "cert_url"
    ∷ codes "resource_set_as"
    ∷ codes "resource_set_ipv4"
    ∷ codes "resource_set_ipv6"
    ∷ codes "resource_set_notafter"
    ∷ codes "suggested_sia_head"
    ∷ []

-- whether the element is a `certificate`
abbrev pub is_certificate : Element → Bool
is_certificate e = is_named (codes "certificate") e.head

-- whether the element is an `issuer`
abbrev pub is_issuer : Element → Bool
is_issuer e = is_named (codes "issuer") e.head

-- whether the element may stand in a `class`: a `certificate` or an `issuer`
abbrev pub is_inside : Element → Bool
is_inside e = is_certificate e || is_issuer e

-- the certificates in a class: the issued ones, and the octets of the issuing key's
pub record Certificates : Type 0 where
  pub issued : List (IssuedOf (List ℕ))
  pub issuer : List ℕ

-- any number of certificates and exactly one issuer, in any order, and nothing else
unfoldable pub certificates_in : Elements → Option Certificates
certificates_in children = do
  _ ← items.only is_inside (listed children)
  issued ← read_all certificate_in (filter is_certificate (listed children))
  issuer ← items.the_one issuer_in (filter is_issuer (listed children))
  Some (record { issued = issued; issuer = issuer })

-- what the attributes of a class say
pub record ClassStart : Type 0 where
  pub class_name : List ℕ
  pub url : List ℕ
  pub resource_set : Resources
  pub not_after : ℤ

-- a name, a URI, sets and a time; `suggested_sia_head` is passed over
unfoldable pub class_start_in : Head → Option ClassStart
class_start_in h = do
  _ ← only_listed class_attributes h
  _ ← optional (codes "suggested_sia_head") h
  name ← required (codes "class_name") h
  url ← required_by (uri_of_text rsync) (codes "cert_url") h
  set ← resources_in h
  not_after ← required_by rfc3339_time (codes "resource_set_notafter") h
  Some (record { class_name = name; url = url; resource_set = set; not_after = not_after })

-- a `class` with such attributes, with certificates, and with no text of its own
unfoldable pub class_in : Element → Option (ClassOf (List ℕ))
class_in e = do
  _ ← require (is_named (codes "class") e.head)
  _ ← require (is_nil e.head.text)
  start ← class_start_in e.head
  certificates ← certificates_in e.children
  Some (record {
    class_name = start.class_name;
    resource_set = start.resource_set;
    not_after = start.not_after;
    issued_certs = certificates.issued;
    signing_cert = record { url = start.url; cert = certificates.issuer };
  })

-- ---- a class with one certificate

-- the class that says what is issued, with this one certificate
abbrev pub class_of_issuance : {C : Type 0} → IssuanceOf C → ClassOf C
class_of_issuance i = record {
  class_name = i.class_name;
  resource_set = i.resource_set;
  not_after = i.not_after;
  issued_certs = i.issued_cert ∷ [];
  signing_cert = i.signing_cert;
}

-- what is issued, where a class has exactly one certificate
unfoldable pub issuance_of_class : {C : Type 0} → ClassOf C → Option (IssuanceOf C)
issuance_of_class c = do
  issued ← items.the_one (λ i. Some i) c.issued_certs
  Some (record {
    class_name = c.class_name;
    resource_set = c.resource_set;
    not_after = c.not_after;
    issued_cert = issued;
    signing_cert = c.signing_cert;
  })

-- what is issued, by a `class` with exactly one certificate (3.4.2)
unfoldable pub issuance_in : Element → Option (IssuanceOf (List ℕ))
issuance_in e = class_in e >>= issuance_of_class
