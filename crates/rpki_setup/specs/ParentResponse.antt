-- The response of a parent to its child (RFC 8183, 5.2.2).
use Rattle.std.specs.Prelude.{ℕ, List, ◌∷◌, Bool, ◌||◌, ◌&&◌, Option, None, Some, IfSome, filter, codes}
use Rattle.base64.specs.GeneralPurpose.{IsBytes}
use Rattle.rpki_common.specs.Chaining.{◌>>=◌}
use Rattle.rpki_common.specs.Items as items
use Rattle.rpki_xmltext.specs.Parts.{attribute}
use Rattle.rpki_text.specs.Handle.{IsHandle}
use Rattle.rpki_xml.specs.Draft.{optional_attribute}
use Rattle.rpki_xml.specs.Element.{Elements, Element, listed, is_none}
use Rattle.rpki_xml.specs.Lettered.{AreOctets}
use Rattle.rpki_xml.specs.Spelling.{spelled}
use Rattle.rpki_xml.specs.Tables.{is_named, optional}
use Rattle.rpki_setup.specs.declared.service_uri.ServiceUri.{ServiceUri}
use Rattle.rpki_setup.specs.Root.{certificate_element, root_element, setup_root_in, handle_in, certificate_in}
use Rattle.rpki_setup.specs.ServiceUri.{service_uri_in, service_text, IsWritableService}

-- what a parent's response says: its BPKI trust anchor, both handles, where its service is, and a
-- tag if it has one
pub record ParentResponseFields : Type 0 where
  -- the octets of the parent's BPKI trust anchor
  pub id_cert : List ℕ
  pub parent_handle : List ℕ
  pub child_handle : List ℕ
  pub service_uri : ServiceUri
  pub tag : Option (List ℕ)

-- the element that a response is written as
unfoldable pub parent_response_element : ParentResponseFields → Element
parent_response_element m =
    root_element (codes "parent_response")
    (attribute (codes "parent_handle") m.parent_handle
    ∷ attribute (codes "child_handle") m.child_handle
    ∷ attribute (codes "service_uri") (service_text m.service_uri)
    ∷ optional_attribute (codes "tag") m.tag)
    (certificate_element (codes "parent_bpki_ta") m.id_cert)

-- the octets of a response
unfoldable pub parent_response_text : ParentResponseFields → List ℕ
parent_response_text m = spelled (parent_response_element m)

-- whether the element is a `parent_bpki_ta`
abbrev pub holds_certificate : Element → Bool
holds_certificate e = is_named (codes "parent_bpki_ta") e.head

-- a `referral` or an `offer`, which has no child; its attributes and its text are not looked at
abbrev pub is_passed_over : Element → Bool
is_passed_over e =
    (is_named (codes "referral") e.head || is_named (codes "offer") e.head) && is_none e.children

-- whether the element may stand in a response: a `parent_bpki_ta`, or one that is passed over
abbrev pub may_stand : Element → Bool
may_stand e = holds_certificate e || is_passed_over e

-- the octets in a `parent_bpki_ta` with a base64 text and no child
abbrev pub some_certificate : Element → Option (Option (List ℕ))
some_certificate e = certificate_in (codes "parent_bpki_ta") e >>= λ octets. Some (Some octets)

-- any number of elements that may stand in a response, in any order, and among them one certificate
-- at least. Each has to be lawful, and the last one counts
unfoldable pub last_certificate_in : Elements → Option (List ℕ)
last_certificate_in children = do
  _ ← items.only may_stand (listed children)
  found ← items.the_last None some_certificate (filter holds_certificate (listed children))
  found

-- the response that an element is read as; attributes of other names are passed over
unfoldable pub parent_response_in : Element → Option ParentResponseFields
parent_response_in e = do
  _ ← setup_root_in (codes "parent_response") e
  parent ← handle_in (codes "parent_handle") e.head
  child ← handle_in (codes "child_handle") e.head
  service ← service_uri_in e.head
  tag ← optional (codes "tag") e.head
  octets ← last_certificate_in e.children
  Some (record {
    id_cert = octets;
    parent_handle = parent;
    child_handle = child;
    service_uri = service;
    tag = tag;
  })

-- What can be written so that it is read again: the handles have the pattern, the service URI is
-- one, and the tag consists of octets that a document may have. That octets are octets is kept by
-- the types of these fields.
pub record IsWritableParentResponse (m : ParentResponseFields) : Type 0 where
  pub id_cert : IsBytes m.id_cert
  pub parent_handle : IsHandle m.parent_handle
  pub child_handle : IsHandle m.child_handle
  pub service_uri : IsWritableService m.service_uri
  pub tag : IfSome m.tag AreOctets
