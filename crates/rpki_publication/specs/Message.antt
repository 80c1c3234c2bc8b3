-- The messages of the publication protocol, as elements (RFC 8181, 2.1). Names are compared by
-- their local parts, and the root's namespace is not looked at.
use Rattle.std.specs.Prelude.{◌≢◌, ℕ, List, [], ◌∷◌, Option, None, Some, map, if◌then◌else◌, codes}
use Rattle.std.specs.List.{AllByRecursion}
use Rattle.std.specs.Str.{bytes_eq}
use Rattle.rpki_common.specs.Chaining.{◌>>=◌}
use Rattle.rpki_xmltext.specs.Reading as reading
use Rattle.rpki_xmltext.specs.Parts.{attribute, leaf}
use Rattle.rpki_xml.specs.Element.{Elements, Element, alone, elements_of, is_nil}
use Rattle.rpki_xml.specs.Tables.{require, is_named, is_first_named, only_listed, required, given_or_absent, is_empty, the_child, each_of}
use Rattle.rpki_xml.specs.Spelling.{spelled}
use Rattle.rpki_publication.specs.declared.message.Message.{Message}
use Rattle.rpki_publication.specs.declared.message.Message.TheVariants as message
use Rattle.rpki_publication.specs.declared.query.Query.{Query}
use Rattle.rpki_publication.specs.declared.query.Query.TheVariants as query
use Rattle.rpki_publication.specs.declared.reply.Reply.{Reply}
use Rattle.rpki_publication.specs.declared.reply.Reply.TheVariants as reply
use Rattle.rpki_publication.specs.Change.{list_query_element, list_query_in, change_element, change_in, IsWritableChange, normal_change}
use Rattle.rpki_publication.specs.ListReply.{list_element, list_element_in, IsWritableListElement}
use Rattle.rpki_publication.specs.Pdu.{reply_attributes_in}
use Rattle.rpki_publication.specs.ReportError.{report_error_element, report_error_in, IsWritableError, normal_error}

-- the namespace of the root that is written
abbrev pub NAMESPACE : List ℕ
NAMESPACE = codes "http://www.hactrn.net/uris/rpki/publication-spec/"

-- ---- what is written

-- the elements in the root of a query: `<list/>`, or one for each change
abbrev pub query_elements : Query → Elements
query_elements query.List = alone list_query_element
query_elements (query.Delta changes) = elements_of change_element changes

-- `<success/>` (2.2)
abbrev pub success_element : Element
success_element = leaf (codes "success") [] []

-- the elements in the root of a reply: one for each object, `<success/>`, or one for each error
abbrev pub reply_elements : Reply → Elements
reply_elements (reply.List objects) = elements_of list_element objects
reply_elements reply.Success = alone success_element
reply_elements (reply.ErrorReply errors) = elements_of report_error_element errors

-- the root, of version 4 and this type, with these elements in it
abbrev pub root_element : List ℕ → Elements → Element
root_element type children = record {
  head = record {
    name = codes "msg";
    namespace = Some NAMESPACE;
    attributes = attribute (codes "version") (codes "4") ∷ attribute (codes "type") type ∷ [];
    text = [];
  };
  children = children;
}

-- the element that a message is written as
unfoldable pub element_of : Message → Element
element_of (message.Query q) = root_element (codes "query") (query_elements q)
element_of (message.Reply r) = root_element (codes "reply") (reply_elements r)

-- the octets of a message
unfoldable pub text_of : Message → List ℕ
text_of m = spelled (element_of m)

-- ---- what is read

-- what stands in a query: exactly one `list`, or any number of `publish` and `withdraw`
unfoldable pub query_in : Elements → Option Query
query_in children =
    if is_first_named (codes "list") children
    then (do
      e ← the_child children
      _ ← list_query_in e
      Some query.List)
    else (do
      changes ← each_of change_in children
      Some (query.Delta changes))

-- a `success` with nothing inside; its attributes are dropped
unfoldable pub success_in : Element → Option (Unit {0})
success_in e = do
  _ ← require (is_named (codes "success") e.head)
  _ ← require (is_empty e)
  _ ← reply_attributes_in e.head
  Some tt

-- what stands in a reply: exactly one `success`, or one or more `report_error`, or any number of
-- `list`
unfoldable pub reply_in : Elements → Option Reply
reply_in children =
    if is_first_named (codes "success") children
    then (do
      e ← the_child children
      _ ← success_in e
      Some reply.Success)
    else if is_first_named (codes "report_error") children
    then (do
      errors ← each_of report_error_in children
      Some (reply.ErrorReply errors))
    else (do
      objects ← each_of list_element_in children
      Some (reply.List objects))

-- what stands in a message of this type
unfoldable pub body_in : List ℕ → Elements → Option Message
body_in type children =
    if bytes_eq type (codes "query")
    then (do
      q ← query_in children
      Some (message.Query q))
    else if bytes_eq type (codes "reply")
    then (do
      r ← reply_in children
      Some (message.Reply r))
    else None

-- the type that a root gives: an element `msg` without text, with a type, with version 4 where it
-- has a version, and without other attributes
unfoldable pub type_in : Element → Option (List ℕ)
type_in e = do
  _ ← require (is_named (codes "msg") e.head)
  _ ← require (is_nil e.head.text)
  _ ← only_listed (codes "version" ∷ codes "type" ∷ []) e.head
  _ ← given_or_absent (codes "version") (codes "4") e.head
  required (codes "type") e.head

-- the message that an element is read as
unfoldable pub message_of : Element → Option Message
message_of e = do
  type ← type_in e
  body_in type e.children

-- The octets are a document, whose element is read as the message.
abbrev pub Reads : List ℕ → Message → Type 0
Reads octets m = reading.ReadsAs message_of octets m

-- the octets are no message
abbrev pub IsNoMessage : List ℕ → Type 0
IsNoMessage octets = reading.IsNoMessage message_of octets

-- ---- what can be written so that it is read again

-- a query that can be written so that it is read again: each of its changes can
abbrev pub IsWritableQuery : Query → Type 0
IsWritableQuery query.List = Unit {0}
IsWritableQuery (query.Delta changes) = AllByRecursion IsWritableChange changes

-- an error reply has an error
abbrev pub IsWritableReply : Reply → Type 0
IsWritableReply (reply.List objects) = AllByRecursion IsWritableListElement objects
IsWritableReply reply.Success = Unit {0}
IsWritableReply (reply.ErrorReply errors) = (errors ≢ []) × AllByRecursion IsWritableError errors

-- a message that can be written so that it is read again
abbrev pub IsWritable : Message → Type 0
IsWritable (message.Query q) = IsWritableQuery q
IsWritable (message.Reply r) = IsWritableReply r

-- the form in which a query is read back: each missing tag of a change is the empty one
abbrev pub normal_query : Query → Query
normal_query query.List = query.List
normal_query (query.Delta changes) = query.Delta (map normal_change changes)

-- the form in which a reply is read back: each missing text of an error is that of its code, and
-- each failed change has the tag that was written
abbrev pub normal_reply : Reply → Reply
normal_reply (reply.List objects) = reply.List objects
normal_reply reply.Success = reply.Success
normal_reply (reply.ErrorReply errors) = reply.ErrorReply (map normal_error errors)

-- the form in which a message is read back
unfoldable pub normal_form : Message → Message
normal_form (message.Query q) = message.Query (normal_query q)
normal_form (message.Reply r) = message.Reply (normal_reply r)
