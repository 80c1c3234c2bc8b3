-- The request of a child to its parent (RFC 8183, 5.2.1).
use Rattle.std.specs.Prelude.{ℕ, List, [], ◌∷◌, Option, Some, IfSome, codes}
use Rattle.base64.specs.GeneralPurpose.{IsBytes}
use Rattle.rpki_common.specs.Chaining.{◌>>=◌}
use Rattle.rpki_xmltext.specs.Parts.{attribute}
use Rattle.rpki_text.specs.Handle.{IsHandle}
use Rattle.rpki_xml.specs.Draft.{optional_attribute}
use Rattle.rpki_xml.specs.Element.{Element}
use Rattle.rpki_xml.specs.Lettered.{AreOctets}
use Rattle.rpki_xml.specs.Spelling.{spelled}
use Rattle.rpki_xml.specs.Tables.{only_listed, optional}
use Rattle.rpki_setup.specs.Root.{certificate_element, root_element, setup_root_in, handle_in, one_certificate_in}

-- what a child's request says: its BPKI trust anchor, its handle, and a tag if it has one
pub record ChildRequestFields : Type 0 where
  -- the octets of the child's BPKI trust anchor
  pub id_cert : List ℕ
  pub child_handle : List ℕ
  pub tag : Option (List ℕ)

-- the element that a request is written as
unfoldable pub child_request_element : ChildRequestFields → Element
child_request_element m =
    root_element (codes "child_request")
    (attribute (codes "child_handle") m.child_handle ∷ optional_attribute (codes "tag") m.tag)
    (certificate_element (codes "child_bpki_ta") m.id_cert)

-- the octets of a request
unfoldable pub child_request_text : ChildRequestFields → List ℕ
child_request_text m = spelled (child_request_element m)

-- the request that an element is read as
unfoldable pub child_request_in : Element → Option ChildRequestFields
child_request_in e = do
  _ ← setup_root_in (codes "child_request") e
  _ ← only_listed (codes "version" ∷ codes "child_handle" ∷ codes "tag" ∷ []) e.head
  handle ← handle_in (codes "child_handle") e.head
  tag ← optional (codes "tag") e.head
  octets ← one_certificate_in (codes "child_bpki_ta") e.children
  Some (record { id_cert = octets; child_handle = handle; tag = tag })

-- What can be written so that it is read again: the handle has the pattern, and the tag consists of
-- octets that a document may have. That octets are octets is kept by the certificate's type.
pub record IsWritableChildRequest (m : ChildRequestFields) : Type 0 where
  pub id_cert : IsBytes m.id_cert
  pub child_handle : IsHandle m.child_handle
  pub tag : IfSome m.tag AreOctets
