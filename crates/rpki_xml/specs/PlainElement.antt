-- Plain elements: what can be written so that it is read again.
use Rattle.std.specs.Prelude.{◌≡◌, ℕ, List, [], true, false, None, IfSome}
use Rattle.std.specs.List.{list_all, AllByRecursion}
use Rattle.rpki_xml.specs.Element.{Attribute, Head, Elements, none, first, is_none, is_nil}
use Rattle.rpki_xml.specs.Name.{behind_colon, is_name, is_name_octet}
use Rattle.rpki_xml.specs.Content.{is_declaration, is_distinct, trimmed}
use Rattle.rpki_xml.specs.Lexing.{is_octet}

-- a lawful name without a prefix
pub record IsPlainName (name : List ℕ) : Type 0 where
  pub lawful : is_name name ≡ true
  pub octets : list_all is_name_octet name ≡ true
  pub plain : behind_colon name ≡ None

-- a plain name that declares no namespace, and a value of octets that a document may have
pub record IsPlainAttribute (a : Attribute) : Type 0 where
  pub name : IsPlainName a.name
  pub handed_on : is_declaration a ≡ false
  pub value : list_all is_octet a.value ≡ true

-- the namespace, where there is one, is not empty, no two attributes have one name, and the text
-- has no outer white space
pub record IsPlainHead (h : Head) : Type 0 where
  pub name : IsPlainName h.name
  pub namespace : IfSome h.namespace (λ uri. (is_nil uri ≡ false) × (list_all is_octet uri ≡ true))
  pub attributes : AllByRecursion IsPlainAttribute h.attributes
  pub distinct : is_distinct h.attributes ≡ true
  pub trimmed : trimmed h.text ≡ h.text
  pub text : list_all is_octet h.text ≡ true

-- each head is plain, and where there are children there is no text
abbrev pub ArePlain : Elements → Type 0
ArePlain none = Unit {0}
ArePlain (first head children rest) =
    IsPlainHead head
    × ((is_none children ≡ false → head.text ≡ []) × (ArePlain children × ArePlain rest))
