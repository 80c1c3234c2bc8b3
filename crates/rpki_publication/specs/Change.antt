-- The elements of a query (RFC 8181, 2.2 and 2.3): `publish`, which with a hash is an update,
-- `withdraw` and `list`.
use Rattle.std.specs.Prelude.{◌≡◌, ◌≤◌, ℕ, List, [], ◌∷◌, Option, None, Some, IfSome, length, if◌then◌else◌, codes}
use Rattle.base64.specs.Engines.{standard}
use Rattle.base64.specs.GeneralPurpose.{encode_of, IsBytes}
use Rattle.hex.specs.Hex as hex
use Rattle.rpki_common.specs.Chaining.{◌>>=◌}
use Rattle.rpki_xmltext.specs.Parts.{attribute, leaf}
use Rattle.rpki_text.specs.Base64.{base64_content}
use Rattle.rpki_text.specs.Uri.{rsync, fault_of}
use Rattle.rpki_xml.specs.Element.{Element, is_none}
use Rattle.rpki_xml.specs.Lettered.{AreOctets}
use Rattle.rpki_xml.specs.Tables.{require, is_named, is_empty}
use Rattle.rpki_publication.specs.declared.publish_delta_element.PublishDeltaElement.{PublishDeltaElement}
use Rattle.rpki_publication.specs.declared.publish_delta_element.PublishDeltaElement.TheVariants as change
use Rattle.rpki_publication.specs.declared.query_pdu.QueryPdu.{QueryPdu}
use Rattle.rpki_publication.specs.declared.query_pdu.QueryPdu.TheVariants as pdu
use Rattle.rpki_publication.specs.Pdu.{query_attributes_in}
use Rattle.rpki_publication.specs.Publish.{PublishFields, UpdateFields, WithdrawFields, tag_text}

-- ---- what is written

-- the `publish` that is written of a new object: its tag, its URI, and its octets in base64
abbrev pub publish_element : PublishFields → Element
publish_element p =
    leaf (codes "publish")
    (attribute (codes "tag") (tag_text p.tag) ∷ attribute (codes "uri") p.uri ∷ [])
    (encode_of standard p.content)

-- the `publish` that is written of an update: its tag, its URI, the hash of the object that is
-- replaced, and the new octets in base64
abbrev pub update_element : UpdateFields → Element
update_element u =
    leaf (codes "publish")
    (attribute (codes "tag") (tag_text u.tag)
    ∷ attribute (codes "uri") u.uri
    ∷ attribute (codes "hash") (hex.encode_lower u.hash)
    ∷ [])
    (encode_of standard u.content)

-- the `withdraw` that is written: its tag, its URI, and the hash of the object that is removed
abbrev pub withdraw_element : WithdrawFields → Element
withdraw_element w =
    leaf (codes "withdraw")
    (attribute (codes "tag") (tag_text w.tag)
    ∷ attribute (codes "uri") w.uri
    ∷ attribute (codes "hash") (hex.encode_lower w.hash)
    ∷ [])
    []

-- the element that a change is written as
unfoldable pub change_element : PublishDeltaElement → Element
change_element (change.Publish p) = publish_element p
change_element (change.Update u) = update_element u
change_element (change.Withdraw w) = withdraw_element w

-- `<list/>`
abbrev pub list_query_element : Element
list_query_element = leaf (codes "list") [] []

-- the element that a part of a query is written as: a change or a `list`
unfoldable pub query_pdu_element : QueryPdu → Element
query_pdu_element pdu.List = list_query_element
query_pdu_element (pdu.PublishDeltaElement c) = change_element c

-- ---- what is read

-- what is published, where nothing was or in another object's place
abbrev pub published : Option (List ℕ) → List ℕ → List ℕ → Option (List ℕ) → PublishDeltaElement
published tag uri content None =
    change.Publish (record { tag = tag; uri = uri; content = content })
published tag uri content (Some hash) =
    change.Update (record { tag = tag; uri = uri; content = content; hash = hash })

-- a `publish` with a URI, a base64 text and no child
unfoldable pub publish_in : Element → Option PublishDeltaElement
publish_in e = do
  _ ← require (is_named (codes "publish") e.head)
  _ ← require (is_none e.children)
  a ← query_attributes_in e.head
  uri ← a.uri
  content ← base64_content e.head.text
  Some (published a.tag uri content a.hash)

-- a `withdraw` with a URI and a hash, and nothing inside
unfoldable pub withdraw_in : Element → Option PublishDeltaElement
withdraw_in e = do
  _ ← require (is_named (codes "withdraw") e.head)
  _ ← require (is_empty e)
  a ← query_attributes_in e.head
  uri ← a.uri
  hash ← a.hash
  Some (change.Withdraw (record { tag = a.tag; uri = uri; hash = hash }))

-- either of them
unfoldable pub change_in : Element → Option PublishDeltaElement
change_in e = if is_named (codes "publish") e.head then publish_in e else withdraw_in e

-- a `list` with nothing inside; its attributes are dropped
unfoldable pub list_query_in : Element → Option (Unit {0})
list_query_in e = do
  _ ← require (is_named (codes "list") e.head)
  _ ← require (is_empty e)
  _ ← query_attributes_in e.head
  Some tt

-- any of the three
unfoldable pub query_pdu_in : Element → Option QueryPdu
query_pdu_in e =
    if is_named (codes "list") e.head
    then (list_query_in e >>= λ _. Some pdu.List)
    else (change_in e >>= λ c. Some (pdu.PublishDeltaElement c))

-- ---- what can be written so that it is read again

-- a digest: 32 octets, which its type keeps
abbrev pub IsDigest : List ℕ → Type 0
IsDigest hash = (length hash ≡ 32) × hex.IsBytes hash

-- Tags consist of octets that a document may have. That URIs are lawful, that octets are octets and
-- that digests are some is kept by the types of these fields.
pub record IsWritablePublish (p : PublishFields) : Type 0 where
  pub tag : IfSome p.tag AreOctets
  pub uri : fault_of rsync p.uri ≡ None
  pub content : IsBytes p.content

-- an update with a lawful rsync URI, octets and a digest, and with no tag or one whose octets a
-- document may have
pub record IsWritableUpdate (u : UpdateFields) : Type 0 where
  pub tag : IfSome u.tag AreOctets
  pub uri : fault_of rsync u.uri ≡ None
  pub content : IsBytes u.content
  pub hash : IsDigest u.hash

-- a withdrawal with a lawful rsync URI and a digest, and with no tag or one whose octets a document
-- may have
pub record IsWritableWithdraw (w : WithdrawFields) : Type 0 where
  pub tag : IfSome w.tag AreOctets
  pub uri : fault_of rsync w.uri ≡ None
  pub hash : IsDigest w.hash

-- a change that can be written so that it is read again
abbrev pub IsWritableChange : PublishDeltaElement → Type 0
IsWritableChange (change.Publish p) = IsWritablePublish p
IsWritableChange (change.Update u) = IsWritableUpdate u
IsWritableChange (change.Withdraw w) = IsWritableWithdraw w

-- a part of a query that can be written so that it is read again
abbrev pub IsWritablePdu : QueryPdu → Type 0
IsWritablePdu pdu.List = Unit {0}
IsWritablePdu (pdu.PublishDeltaElement c) = IsWritableChange c

-- the form in which a change is read back: with the tag that was written
unfoldable pub normal_change : PublishDeltaElement → PublishDeltaElement
normal_change (change.Publish p) =
    change.Publish (record { tag = Some (tag_text p.tag); uri = p.uri; content = p.content })
normal_change (change.Update u) =
    change.Update (record {
      tag = Some (tag_text u.tag);
      uri = u.uri;
      content = u.content;
      hash = u.hash;
    })
normal_change (change.Withdraw w) =
    change.Withdraw (record { tag = Some (tag_text w.tag); uri = w.uri; hash = w.hash })

-- the form in which a part of a query is read back: a change with the tag that was written
unfoldable pub normal_pdu : QueryPdu → QueryPdu
normal_pdu pdu.List = pdu.List
normal_pdu (pdu.PublishDeltaElement c) = pdu.PublishDeltaElement (normal_change c)

-- ---- changes of which a query's text is short

-- a change's tag, its URI and its base64 text have at most 64 octets each, and a hash is a digest
abbrev pub IsSmallChange : PublishDeltaElement → Type 0
IsSmallChange (change.Publish p) =
    IfSome p.tag (λ tag. length tag ≤ 64)
    × ((length p.uri ≤ 64) × (length (encode_of standard p.content) ≤ 64))
IsSmallChange (change.Update u) =
    IsDigest u.hash × (IfSome u.tag (λ tag. length tag ≤ 64)
    × ((length u.uri ≤ 64) × (length (encode_of standard u.content) ≤ 64)))
IsSmallChange (change.Withdraw w) =
    IsDigest w.hash × (IfSome w.tag (λ tag. length tag ≤ 64) × (length w.uri ≤ 64))
