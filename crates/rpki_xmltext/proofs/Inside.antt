-- What stands behind the attributes of an element, and attributes one after the other.
use Rattle.std.proofs.Common.{◌≡◌, true, false, length, ℕ, List, [], ◌∷◌, ◌++◌, refl, sym, ap, ◌∙◌, append_assoc}
use Rattle.std.proofs.lemmas.Bool.{eqb-true}
use Rattle.std.proofs.lemmas.List.{append-nil, nil_from_length}
use Rattle.std.specs.Prelude.{◌==◌}
use Rattle.base64.specs.Engines.{standard}
use Rattle.base64.specs.GeneralPurpose.{encode_of}
use Rattle.rpki_xml.specs.Element.{Attribute, is_nil}
use Rattle.rpki_xml.specs.Spelling.{spelled_text, spelled_attribute, spelled_attributes, spelled_end}
use Rattle.rpki_xmltext.specs.Inside.{text_inside}
use Rattle.rpki_xmltext.proofs.Base64s.{spelled_text-encode}

pub attributes_joined : (front back : List Attribute) → spelled_attributes (front ++ back) ≡ spelled_attributes front ++ spelled_attributes back
attributes_joined [] back = refl
attributes_joined (a ∷ front) back = ap (λ (l : List ℕ). spelled_attribute a.name a.value ++ l) (attributes_joined front back) ∙ sym (append_assoc (spelled_attribute a.name a.value) (spelled_attributes front) (spelled_attributes back))

differs : true ≡ false → ⊥
differs e = cc

pub not_nil : (text : List ℕ) → (length text == 0) ≡ false → is_nil text ≡ false
not_nil [] e = absurd (differs e)
not_nil (c ∷ text) e = refl

is_empty : (text : List ℕ) → (length text == 0) ≡ true → text ≡ []
is_empty text e = nil_from_length text (eqb-true (length text) 0 e)

-- ---- an element's text and its end

pub nothing_inside : (name text : List ℕ) → (length text == 0) ≡ true → 47 ∷ 62 ∷ [] ≡ text_inside name text
nothing_inside name text e = ap (text_inside name) (sym (is_empty text e))

pub something_inside : (name text : List ℕ) → (length text == 0) ≡ false → 62 ∷ [] ++ (spelled_text text ++ spelled_end name) ≡ text_inside name text
something_inside name text e =
    rw (not_nil text e) (ap (λ (l : List ℕ). 62 ∷ (l ++ spelled_end name)) (sym (append-nil (spelled_text text))))

pub octets_inside : (name octets text : List ℕ) → text ≡ encode_of standard octets → (length text == 0) ≡ false → 62 ∷ [] ++ (text ++ spelled_end name) ≡ text_inside name (encode_of standard octets)
octets_inside name octets text is e =
    ap (λ (l : List ℕ). 62 ∷ (l ++ spelled_end name)) (is ∙ sym (spelled_text-encode octets)) ∙ something_inside name (encode_of standard octets) (ap (λ (l : List ℕ). length l == 0) (sym is) ∙ e)

pub no_octets_inside : (name octets text : List ℕ) → text ≡ encode_of standard octets → (length text == 0) ≡ true → 47 ∷ 62 ∷ [] ≡ text_inside name (encode_of standard octets)
no_octets_inside name octets text is e = nothing_inside name (encode_of standard octets) (ap (λ (l : List ℕ). length l == 0) (sym is) ∙ e)
