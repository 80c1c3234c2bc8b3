-- The messages of the provisioning protocol, as elements (RFC 6492, 3.2). Names are compared by
-- their local parts, and the root's namespace is not looked at.
use Rattle.std.specs.Prelude.{ℕ, List, [], ◌∷◌, Option, Some, codes}
use Rattle.rpki_common.specs.Chaining.{◌>>=◌}
use Rattle.rpki_xmltext.specs.Parts.{attribute, required_by}
use Rattle.rpki_xmltext.specs.Reading as reading
use Rattle.rpki_text.specs.Handle.{handle_of_text}
use Rattle.rpki_updown.specs.PayloadType.{payload_type_text, payload_type_of_text}
use Rattle.rpki_updown.specs.declared.payload_type.PayloadType.{PayloadType}
use Rattle.rpki_updown.specs.declared.payload_type.PayloadType.TheVariants as kind
use Rattle.rpki_xml.specs.Element.{Elements, none, Element, alone, elements_of, is_nil}
use Rattle.rpki_xml.specs.Spelling.{spelled}
use Rattle.rpki_xml.specs.Tables.{require, is_named, only_listed, given_or_absent, no_child, the_child, each_of}
use Rattle.rpki_provisioning.specs.declared.shape.PayloadShape.{PayloadShape}
use Rattle.rpki_provisioning.specs.declared.shape.PayloadShape.TheVariants as shape
use Rattle.rpki_provisioning.specs.Class.{class_element, class_in, class_of_issuance, issuance_in}
use Rattle.rpki_provisioning.specs.NotPerformed.{not_performed_elements, not_performed_in}
use Rattle.rpki_provisioning.specs.Request.{request_element, request_in, key_element, key_in}
use Rattle.rpki_provisioning.specs.Shape.{MessageOf, MessageFields, MessageShape, shape_of, message_of_shape}

-- the namespace of the root that is written
abbrev pub NAMESPACE : List ℕ
NAMESPACE = codes "http://www.apnic.net/specs/rescerts/up-down/"

-- ---- what is written

-- the kind of a shape's payload, which stands in the attribute `type`
abbrev pub shape_type : PayloadShape → PayloadType
shape_type shape.List = kind.List
shape_type (shape.ListResponse classes) = kind.ListResponse
shape_type (shape.Issue request) = kind.Issue
shape_type (shape.IssueResponse response) = kind.IssueResponse
shape_type (shape.Revoke request) = kind.Revoke
shape_type (shape.RevokeResponse response) = kind.RevokeResponse
shape_type (shape.ErrorResponse response) = kind.ErrorResponse

-- the elements in the root that a payload is written as
unfoldable pub payload_elements : PayloadShape → Elements
payload_elements shape.List = none
payload_elements (shape.ListResponse classes) = elements_of class_element classes
payload_elements (shape.Issue request) = alone (request_element request)
payload_elements (shape.IssueResponse response) =
    alone (class_element (class_of_issuance response))
payload_elements (shape.Revoke request) = alone (key_element request)
payload_elements (shape.RevokeResponse response) = alone (key_element response)
payload_elements (shape.ErrorResponse response) = not_performed_elements response

-- the root, of version 1, with sender, recipient and type, and these elements in it
abbrev pub root_element : List ℕ → List ℕ → List ℕ → Elements → Element
root_element sender recipient type children = record {
  head = record {
    name = codes "message";
    namespace = Some NAMESPACE;
    attributes =
        attribute (codes "version") (codes "1")
        ∷ attribute (codes "sender") sender
        ∷ attribute (codes "recipient") recipient
        ∷ attribute (codes "type") type
        ∷ [];
    text = [];
  };
  children = children;
}

-- the root that a message's shape is written as
unfoldable pub shape_element : MessageShape → Element
shape_element s =
    root_element s.sender s.recipient (payload_type_text (shape_type s.payload))
    (payload_elements s.payload)

-- the element that a message is written as
abbrev pub element_of : MessageFields → Element
element_of m = shape_element (shape_of m)

-- the octets of a message
unfoldable pub text_of : MessageFields → List ℕ
text_of m = spelled (element_of m)

-- ---- what is read, step one: the shape

-- what stands in a message of this type
unfoldable pub payload_in : PayloadType → Elements → Option PayloadShape
payload_in kind.List children = do
  _ ← no_child children
  Some shape.List
payload_in kind.ListResponse children = do
  classes ← each_of class_in children
  Some (shape.ListResponse classes)
payload_in kind.Issue children = do
  e ← the_child children
  request ← request_in e
  Some (shape.Issue request)
payload_in kind.IssueResponse children = do
  e ← the_child children
  response ← issuance_in e
  Some (shape.IssueResponse response)
payload_in kind.Revoke children = do
  e ← the_child children
  key ← key_in e
  Some (shape.Revoke key)
payload_in kind.RevokeResponse children = do
  e ← the_child children
  key ← key_in e
  Some (shape.RevokeResponse key)
payload_in kind.ErrorResponse children = do
  response ← not_performed_in children
  Some (shape.ErrorResponse response)

-- what a root gives: an element `message` without text, with sender, recipient and type, with
-- version 1 where it has a version, and without other attributes
unfoldable pub message_root_in : Element → Option (MessageOf PayloadType)
message_root_in e = do
  _ ← require (is_named (codes "message") e.head)
  _ ← require (is_nil e.head.text)
  _ ← only_listed (codes "version" ∷ codes "sender" ∷ codes "recipient" ∷ codes "type" ∷ []) e.head
  _ ← given_or_absent (codes "version") (codes "1") e.head
  sender ← required_by handle_of_text (codes "sender") e.head
  recipient ← required_by handle_of_text (codes "recipient") e.head
  type ← required_by payload_type_of_text (codes "type") e.head
  Some (record { sender = sender; recipient = recipient; payload = type })

-- the shape that an element is read as
unfoldable pub shape_in : Element → Option MessageShape
shape_in e = do
  root ← message_root_in e
  payload ← payload_in root.payload e.children
  Some (record { sender = root.sender; recipient = root.recipient; payload = payload })

-- ---- what is read, step two: certificates and requests

-- the message that an element is read as: its shape, with what the octets in it begin with
unfoldable pub message_of : Element → Option MessageFields
message_of e = shape_in e >>= message_of_shape

-- The octets are a document, whose element has this shape.
abbrev pub HasShape : List ℕ → MessageShape → Type 0
HasShape octets s = reading.ReadsAs shape_in octets s

-- the octets have no shape
abbrev pub HasNoShape : List ℕ → Type 0
HasNoShape octets = reading.IsNoMessage shape_in octets

-- The octets are a document, whose element is read as the message.
abbrev pub Reads : List ℕ → MessageFields → Type 0
Reads octets m = reading.ReadsAs message_of octets m
