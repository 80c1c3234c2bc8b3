-- Requests for certificates, and keys that are to be revoked, as elements (RFC 6492, 3.4.1 and
-- 3.5). What is in a request is not looked at here.
use Rattle.std.specs.Prelude.{ℕ, List, [], ◌∷◌, Option, Some, codes}
use Rattle.base64.specs.Engines.{standard, url_safe_no_pad}
use Rattle.base64.specs.GeneralPurpose.{encode_of}
use Rattle.rpki_common.specs.Chaining.{◌>>=◌}
use Rattle.rpki_xmltext.specs.Parts.{attribute, leaf, required_by}
use Rattle.rpki_text.specs.Base64.{base64_content}
use Rattle.rpki_text.specs.KeyIdentifier.{key_identifier_of_text}
use Rattle.rpki_updown.specs.Entitlements.{AskedOf}
use Rattle.rpki_updown.specs.KeyElement.{KeyElementFields}
use Rattle.rpki_xml.specs.Element.{Element, is_none}
use Rattle.rpki_xml.specs.Tables.{require, is_named, is_empty, only_listed, required}
use Rattle.rpki_provisioning.specs.Limit.{limit_attributes, limit_in}

-- ---- requests

-- the `request` that is written: the class, what is asked for, and the octets of the request in
-- base64
abbrev pub request_element : AskedOf (List ℕ) → Element
request_element a =
    leaf (codes "request")
    (attribute (codes "class_name") a.class_name ∷ limit_attributes a.limit)
    (encode_of standard a.csr)

-- the attributes that a `request` may have
abbrev pub request_attributes : List (List ℕ)
request_attributes =
    codes "class_name"
    ∷ codes "req_resource_set_as"
    ∷ codes "req_resource_set_ipv4"
    ∷ codes "req_resource_set_ipv6"
    ∷ []

-- a `request` with the name of a class, what is asked for, a base64 text and no child
unfoldable pub request_in : Element → Option (AskedOf (List ℕ))
request_in e = do
  _ ← require (is_named (codes "request") e.head)
  _ ← require (is_none e.children)
  _ ← only_listed request_attributes e.head
  name ← required (codes "class_name") e.head
  limit ← limit_in e.head
  octets ← base64_content e.head.text
  Some (record { class_name = name; limit = limit; csr = octets })

-- ---- keys

-- the key's identifier is spelled in the URL-safe alphabet of base64, without padding (RFC 4648, 5)
abbrev pub key_element : KeyElementFields → Element
key_element k =
    leaf (codes "key")
    (attribute (codes "class_name") k.class_name
    ∷ attribute (codes "ski") (encode_of url_safe_no_pad k.key)
    ∷ [])
    []

-- a `key` with the name of a class and an identifier, with padding or without, and nothing inside
unfoldable pub key_in : Element → Option KeyElementFields
key_in e = do
  _ ← require (is_named (codes "key") e.head)
  _ ← require (is_empty e)
  _ ← only_listed (codes "class_name" ∷ codes "ski" ∷ []) e.head
  name ← required (codes "class_name") e.head
  key ← required_by key_identifier_of_text (codes "ski") e.head
  Some (record { class_name = name; key = key })
