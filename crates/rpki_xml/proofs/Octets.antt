-- What is written has only octets that a document may have.
use Rattle.std.proofs.Common.{◌≡◌, ℕ, Bool, ◌&&◌, true, false, List, [], ◌∷◌, ◌++◌, Option, Some, None, refl, ◌∙◌, arith, IfSome}
use Rattle.std.proofs.lemmas.List.Folds.{list_all-append}
use Rattle.std.proofs.lemmas.Bool.Decides.{nat_tests}
use Rattle.std.specs.Prelude.{codes}
use Rattle.std.specs.List.{list_all, flat_map, AllByRecursion}
use Rattle.rpki_common.proofs.Truths.{both}
use Rattle.rpki_xml.specs.Element.{Attribute, Elements, none, first, Element, alone, is_none, is_nil}
use Rattle.rpki_xml.specs.Lexing.{is_octet, IsDocument}
use Rattle.rpki_xml.specs.Lettered.{AreOctets}
use Rattle.rpki_xml.specs.Name.{is_name_octet}
use Rattle.rpki_xml.specs.Spelling.{text_character, value_character, spelled_text, spelled_value, spelled_attribute, spelled_attributes, spelled_namespace, spelled_start, spelled_inside, spelled_end, spelled_all, spelled}
use Rattle.rpki_xml.specs.PlainElement.{IsPlainAttribute, ArePlain}
use Rattle.rpki_xml.proofs.Spelled.{by_three}
use Rattle.rpki_xml.proofs.Written.{is_document}

joined : (a b : List ℕ) → AreOctets a → AreOctets b → AreOctets (a ++ b)
joined a b h k = list_all-append is_octet a b ∙ rw (h, k) refl

name_octet : (c : ℕ) → is_name_octet c ≡ true → is_octet c ≡ true
name_octet c h = grind (arith, nat_tests)

name_octets : (n : List ℕ) → list_all is_name_octet n ≡ true → AreOctets n
name_octets [] h = refl
name_octets (c ∷ n) h = let p = both (is_name_octet c) (list_all is_name_octet n) h in rw (name_octet c p.0, name_octets n p.1) refl

text_octet : (c : ℕ) → is_octet c ≡ true → AreOctets (text_character c)
text_octet c h = by_three (λ k. is_octet k ≡ true → AreOctets (text_character k)) 38 60 62 c (λ _. refl) (λ _. refl) (λ _. refl) (λ e f g i. rw (e, f, g) (rw i refl)) h

value_octet : (c : ℕ) → is_octet c ≡ true → AreOctets (value_character c)
value_octet c h = by_three (λ k. is_octet k ≡ true → AreOctets (value_character k)) 34 39 39 c (λ _. refl) (λ _. refl) (λ _. refl) (λ e f g i. rw (e, f) (text_octet c i)) h

mapped : (f : ℕ → List ℕ) → ((c : ℕ) → is_octet c ≡ true → AreOctets (f c)) → (text : List ℕ) → AreOctets text → AreOctets (flat_map f text)
mapped f each [] h = refl
mapped f each (c ∷ text) h = let p = both (is_octet c) (list_all is_octet text) h in joined (f c) (flat_map f text) (each c p.0) (mapped f each text p.1)

attribute_octets : (n v : List ℕ) → AreOctets n → AreOctets v → AreOctets (spelled_attribute n v)
unfolding spelled_value
attribute_octets n v h k = joined n (61 ∷ 34 ∷ (spelled_value v ++ 34 ∷ [])) h (joined (spelled_value v) (34 ∷ []) (mapped value_character value_octet v k) refl)

attributes_octets : (list : List Attribute) → AllByRecursion IsPlainAttribute list → AreOctets (spelled_attributes list)
attributes_octets [] h = refl
attributes_octets (a ∷ list) h = joined (spelled_attribute a.name a.value) (spelled_attributes list) (attribute_octets a.name a.value (name_octets a.name h.0.name.octets) h.0.value) (attributes_octets list h.1)

namespace_octets : (uri : Option (List ℕ)) → IfSome uri (λ u. (is_nil u ≡ false) × (list_all is_octet u ≡ true)) → AreOctets (spelled_namespace uri)
namespace_octets None h = refl
namespace_octets (Some u) h = attribute_octets (codes "xmlns") u refl h.1

inside_octets : (b : Bool) (n inside : List ℕ) → AreOctets n → AreOctets inside → AreOctets (spelled_inside b n inside)
inside_octets true n inside h k = refl
inside_octets false n inside h k = joined inside (spelled_end n) k (joined n (62 ∷ []) h refl)

pub all_octets : (es : Elements) → ArePlain es → AreOctets (spelled_all es)
unfolding spelled_text
all_octets none p = refl
all_octets (first h cs rest) p =
    let name = name_octets h.name p.0.name.octets in
    let begin = joined h.name (spelled_namespace h.namespace ++ spelled_attributes h.attributes) name (joined (spelled_namespace h.namespace) (spelled_attributes h.attributes) (namespace_octets h.namespace p.0.namespace) (attributes_octets h.attributes p.0.attributes)) in
    let inside = joined (spelled_text h.text) (spelled_all cs) (mapped text_character text_octet h.text p.0.text) (all_octets cs p.1.1.0) in
    joined (spelled_start h ++ spelled_inside (is_nil h.text && is_none cs) h.name (spelled_text h.text ++ spelled_all cs)) (spelled_all rest)
    (joined (spelled_start h) (spelled_inside (is_nil h.text && is_none cs) h.name (spelled_text h.text ++ spelled_all cs)) begin (inside_octets (is_nil h.text && is_none cs) h.name (spelled_text h.text ++ spelled_all cs) name inside))
    (all_octets rest p.1.1.1)

-- what is written is a document, whose element is the one that was written
pub written_is_read : (e : Element) → ArePlain (alone e) → IsDocument (spelled e) e
written_is_read e p = is_document e p (all_octets (alone e) p)
