-- The elements that messages are written as are plain: they are read again.
use Rattle.std.proofs.Common.{◌≡◌, ℕ, true, List, [], ◌∷◌, refl}
use Rattle.std.specs.Prelude.{codes}
use Rattle.std.specs.List.{AllByRecursion}
use Rattle.base64.specs.Engines.{standard}
use Rattle.base64.specs.GeneralPurpose.{encode_of, IsBytes}
use Rattle.rpki_xml.specs.Content.{is_declaration, is_distinct, trimmed}
use Rattle.rpki_xml.specs.Element.{Attribute, alone}
use Rattle.rpki_xml.specs.PlainElement.{IsPlainName, IsPlainAttribute, IsPlainHead, ArePlain}
use Rattle.rpki_setup.specs.Root.{certificate_element, root_element}
use Rattle.rpki_xmltext.specs.Parts.{attribute}
use Rattle.rpki_xmltext.proofs.Base64s.{encode-trimmed, encode-octets}
use Rattle.rpki_xmltext.proofs.Plain.{leaf_plain}

root_plain : (name : List ℕ) (attributes : List Attribute) (child octets : List ℕ) → IsPlainName name → AllByRecursion IsPlainAttribute attributes
    → is_distinct (attribute (codes "version") (codes "1") ∷ attributes) ≡ true → IsPlainHead (root_element name attributes (certificate_element child octets)).head
unfolding is_declaration trimmed
root_plain name attributes child octets n a d = record {
  name = n;
  namespace = (refl, refl);
  attributes = (record { name = record { lawful = refl; octets = refl; plain = refl }; handed_on = refl; value = refl }, a);
  distinct = d;
  trimmed = refl;
  text = refl;
}

certificate_plain : (name octets : List ℕ) → IsPlainName name → IsBytes octets → IsPlainHead (certificate_element name octets).head
certificate_plain name octets n b = leaf_plain name [] (encode_of standard octets) n tt refl (encode-trimmed octets) (encode-octets octets b)

pub element_plain : (name : List ℕ) (attributes : List Attribute) (child octets : List ℕ) → IsPlainName name → AllByRecursion IsPlainAttribute attributes
    → is_distinct (attribute (codes "version") (codes "1") ∷ attributes) ≡ true → IsPlainName child → IsBytes octets → ArePlain (alone (root_element name attributes (certificate_element child octets)))
element_plain name attributes child octets n a d c b =
    (root_plain name attributes child octets n a d, ((λ _. refl), ((certificate_plain child octets c b, ((λ h. absurd cc), (tt, tt))), tt)))
