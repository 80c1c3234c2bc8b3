-- What the four messages share: the root, the handles, and the element that holds a certificate
-- (RFC 8183, 5.1). Names are compared by their local parts.
use Rattle.std.specs.Prelude.{ℕ, List, [], ◌∷◌, Bool, true, ◌||◌, Option, None, Some, codes}
use Rattle.std.specs.Str.{bytes_eq}
use Rattle.base64.specs.Engines.{standard}
use Rattle.base64.specs.GeneralPurpose.{encode_of}
use Rattle.rpki_common.specs.Chaining.{◌>>=◌}
use Rattle.rpki_xmltext.specs.Parts.{attribute, leaf}
use Rattle.rpki_text.specs.Base64.{base64_content}
use Rattle.rpki_text.specs.Handle.{handle_of_text}
use Rattle.rpki_xml.specs.Element.{Attribute, Head, Elements, Element, alone, is_none, is_nil}
use Rattle.rpki_xml.specs.Tables.{require, is_named, required, given_or_absent, the_child}

-- the namespace of the setup messages
abbrev pub setup_namespace : List ℕ
setup_namespace = codes "http://www.hactrn.net/uris/rpki/rpki-setup/"

-- the namespace of the setup messages without its last `/`
abbrev pub setup_namespace_bare : List ℕ
setup_namespace_bare = codes "http://www.hactrn.net/uris/rpki/rpki-setup"

-- ---- what is written

-- an element that holds a certificate: octets in base64, and nothing else
abbrev pub certificate_element : List ℕ → List ℕ → Element
certificate_element name octets = leaf name [] (encode_of standard octets)

-- a root of version 1 with these further attributes, and one element in it
abbrev pub root_element : List ℕ → List Attribute → Element → Element
root_element name attributes child = record {
  head = record {
    name = name;
    namespace = Some setup_namespace;
    attributes = attribute (codes "version") (codes "1") ∷ attributes;
    text = [];
  };
  children = alone child;
}

-- ---- what is read

-- whether a root may have this namespace: none, or that of the protocol with its last `/` or
-- without
abbrev pub is_setup_namespace : Option (List ℕ) → Bool
is_setup_namespace None = true
is_setup_namespace (Some uri) = bytes_eq uri setup_namespace || bytes_eq uri setup_namespace_bare

-- a root of this name, without text, with version 1 where it has a version
unfoldable pub setup_root_in : List ℕ → Element → Option (Unit {0})
setup_root_in local e = do
  _ ← require (is_named local e.head)
  _ ← require (is_setup_namespace e.head.namespace)
  _ ← require (is_nil e.head.text)
  given_or_absent (codes "version") (codes "1") e.head

-- the handle in the attribute of this name, which has to be there
unfoldable pub handle_in : List ℕ → Head → Option (List ℕ)
handle_in local h = do
  text ← required local h
  handle_of_text text

-- an element of this name with a base64 text and no child: the octets
unfoldable pub certificate_in : List ℕ → Element → Option (List ℕ)
certificate_in local e = do
  _ ← require (is_named local e.head)
  _ ← require (is_none e.children)
  base64_content e.head.text

-- exactly one such element
unfoldable pub one_certificate_in : List ℕ → Elements → Option (List ℕ)
one_certificate_in local children = do
  e ← the_child children
  certificate_in local e
