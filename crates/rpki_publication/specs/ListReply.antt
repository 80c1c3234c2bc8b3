-- The elements of a reply that lists what is published (RFC 8181, 2.3).
use Rattle.std.specs.Prelude.{◌≡◌, [], ◌∷◌, Option, None, Some, codes}
use Rattle.hex.specs.Hex.{encode_lower}
use Rattle.rpki_common.specs.Chaining.{◌>>=◌}
use Rattle.rpki_xmltext.specs.Parts.{attribute, leaf}
use Rattle.rpki_text.specs.Uri.{rsync, fault_of}
use Rattle.rpki_xml.specs.Element.{Element}
use Rattle.rpki_xml.specs.Tables.{require, is_named, is_empty}
use Rattle.rpki_publication.specs.Change.{IsDigest}
use Rattle.rpki_publication.specs.ListElement.{ListElementFields}
use Rattle.rpki_publication.specs.Pdu.{reply_attributes_in}
use Rattle.rpki_publication.specs.Publish.{WithdrawFields}

-- the `list` that is written of an object: its URI and its hash
abbrev pub list_element : ListElementFields → Element
list_element e =
    leaf (codes "list")
    (attribute (codes "uri") e.uri ∷ attribute (codes "hash") (encode_lower e.hash) ∷ []) []

-- a `list` with a URI and a hash, and nothing inside
unfoldable pub list_element_in : Element → Option ListElementFields
list_element_in e = do
  _ ← require (is_named (codes "list") e.head)
  _ ← require (is_empty e)
  a ← reply_attributes_in e.head
  uri ← a.uri
  hash ← a.hash
  Some (record { uri = uri; hash = hash })

-- That the URI is lawful and the hash a digest is kept by their types.
pub record IsWritableListElement (e : ListElementFields) : Type 0 where
  pub uri : fault_of rsync e.uri ≡ None
  pub hash : IsDigest e.hash

-- the element that removes a listed object, tagged with its digest
abbrev pub withdrawal_of : ListElementFields → WithdrawFields
withdrawal_of e = record { tag = Some (encode_lower e.hash); uri = e.uri; hash = e.hash }
