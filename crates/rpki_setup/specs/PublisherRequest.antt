-- The request of a publisher to a repository (RFC 8183, 5.2.3).
use Rattle.std.specs.Prelude.{ℕ, List, [], ◌∷◌, Option, Some, IfSome, codes}
use Rattle.base64.specs.GeneralPurpose.{IsBytes}
use Rattle.rpki_common.specs.Chaining.{◌>>=◌}
use Rattle.rpki_xmltext.specs.Parts.{attribute}
use Rattle.rpki_text.specs.Handle.{IsHandle}
use Rattle.rpki_xml.specs.Draft.{optional_attribute}
use Rattle.rpki_xml.specs.Element.{Element}
use Rattle.rpki_xml.specs.Lettered.{AreOctets}
use Rattle.rpki_xml.specs.Spelling.{spelled}
use Rattle.rpki_xml.specs.Tables.{only_listed, optional}
use Rattle.rpki_setup.specs.Root.{certificate_element, root_element, setup_root_in, handle_in, one_certificate_in}

-- what a publisher's request says: its BPKI trust anchor, its handle, and a tag if it has one
pub record PublisherRequestFields : Type 0 where
  -- the octets of the publisher's BPKI trust anchor
  pub id_cert : List ℕ
  pub publisher_handle : List ℕ
  pub tag : Option (List ℕ)

-- the element that a request is written as
unfoldable pub publisher_request_element : PublisherRequestFields → Element
publisher_request_element m =
    root_element (codes "publisher_request")
    (attribute (codes "publisher_handle") m.publisher_handle
    ∷ optional_attribute (codes "tag") m.tag)
    (certificate_element (codes "publisher_bpki_ta") m.id_cert)

-- the octets of a request
unfoldable pub publisher_request_text : PublisherRequestFields → List ℕ
publisher_request_text m = spelled (publisher_request_element m)

-- the request that an element is read as
unfoldable pub publisher_request_in : Element → Option PublisherRequestFields
publisher_request_in e = do
  _ ← setup_root_in (codes "publisher_request") e
  _ ← only_listed (codes "version" ∷ codes "publisher_handle" ∷ codes "tag" ∷ []) e.head
  handle ← handle_in (codes "publisher_handle") e.head
  tag ← optional (codes "tag") e.head
  octets ← one_certificate_in (codes "publisher_bpki_ta") e.children
  Some (record { id_cert = octets; publisher_handle = handle; tag = tag })

-- What can be written so that it is read again: the handle has the pattern, and the tag consists of
-- octets that a document may have. That octets are octets is kept by the certificate's type.
pub record IsWritablePublisherRequest (m : PublisherRequestFields) : Type 0 where
  pub id_cert : IsBytes m.id_cert
  pub publisher_handle : IsHandle m.publisher_handle
  pub tag : IfSome m.tag AreOctets
