-- Elements of a document consist of the octets of a document.
use Rattle.std.specs.Prelude.{◌≡◌, ℕ, List, true, IfSome}
use Rattle.std.specs.List.{list_all, AllByRecursion}
use Rattle.rpki_xml.specs.Element.{Attribute, Head, Elements, none, first}
use Rattle.rpki_xml.specs.Lexing.{is_octet}

-- all octets are ones that a document may have
abbrev pub AreOctets : List ℕ → Type 0
AreOctets text = list_all is_octet text ≡ true

-- name and value of an attribute consist of octets that a document may have
pub record IsLetteredAttribute (a : Attribute) : Type 0 where
  pub name : AreOctets a.name
  pub value : AreOctets a.value

-- an element's name, namespace, attributes and text consist of octets that a document may have
pub record IsLetteredHead (h : Head) : Type 0 where
  pub name : AreOctets h.name
  pub namespace : IfSome h.namespace AreOctets
  pub attributes : AllByRecursion IsLetteredAttribute h.attributes
  pub text : AreOctets h.text

-- names, namespaces, values and texts of the elements and of all below them have such octets alone
abbrev pub AreLettered : Elements → Type 0
AreLettered none = Unit {0}
AreLettered (first head children rest) =
    IsLetteredHead head × (AreLettered children × AreLettered rest)
