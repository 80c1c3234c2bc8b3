-- What a root is spelled as, in the parts that it is written in.
use Rattle.std.proofs.Common.{◌≡◌, ℕ, List, [], ◌∷◌, ◌++◌, Some, sym, append_assoc}
use Rattle.std.proofs.lemmas.List.{append-nil}
use Rattle.std.specs.Prelude.{codes}
use Rattle.base64.specs.Engines.{standard}
use Rattle.base64.specs.GeneralPurpose.{encode_of}
use Rattle.rpki_xml.specs.Element.{Attribute}
use Rattle.rpki_xml.specs.Spelling.{spelled, spelled_text, spelled_attribute, spelled_attributes, spelled_namespace, spelled_end}
use Rattle.rpki_setup.specs.Root.{setup_namespace, certificate_element, root_element}
use Rattle.rpki_setup.specs.Writing.{start_text, inside_text}
use Rattle.rpki_xmltext.specs.Inside.{text_inside}
use Rattle.rpki_xmltext.proofs.Elements.{leaf_spelled}

parts : (n space version attributes child end : List ℕ) → (60 ∷ (n ++ (space ++ (version ++ attributes))) ++ 62 ∷ (child ++ end)) ++ [] ≡ 60 ∷ (n ++ (space ++ version)) ++ (attributes ++ 62 ∷ (child ++ end))
parts n space version attributes child end = simp (append_assoc, append-nil)

pub root_spelled : (name : List ℕ) (attributes : List Attribute) (child octets : List ℕ)
    → spelled (root_element name attributes (certificate_element child octets)) ≡ start_text name ++ (spelled_attributes attributes ++ inside_text name child octets)
unfolding spelled_text
root_spelled name attributes child octets =
    parts name (spelled_namespace (Some setup_namespace)) (spelled_attribute (codes "version") (codes "1")) (spelled_attributes attributes) (spelled (certificate_element child octets)) (spelled_end name)

-- ---- an element that holds a certificate

pub certificate_spelled : (n octets : List ℕ) → 60 ∷ [] ++ (n ++ text_inside n (encode_of standard octets)) ≡ spelled (certificate_element n octets)
certificate_spelled n octets = sym (leaf_spelled n [] (encode_of standard octets))
