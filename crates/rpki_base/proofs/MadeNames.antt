-- Names that are made.
use Rattle.std.proofs.Common.{◌≡◌, ℕ, Option, None, Some, List, [], ◌∷◌, ◌++◌, length, refl, sym, ap, ◌∙◌, arith}
use Rattle.std.proofs.lemmas.List.{append-nil}
use Rattle.rpki_common.specs.Chaining.{◌>>=◌}
use Rattle.rpki_der.specs.declared.mode.Mode.{Mode}
use Rattle.rpki_der.specs.Identifier.{IsTag}
use Rattle.rpki_der.specs.Tags.{sequence, set, oid_tag}
use Rattle.rpki_der.specs.Value.{Value, Values, End, ◌▸◌, spelling, Begins}
use Rattle.rpki_der.specs.Grammar.{within, first, every, done, so}
use Rattle.rpki_der.specs.Held.{octets_of}
use Rattle.rpki_der.specs.Oid.{oid}
use Rattle.rpki_der.specs.Writing.{der_length, with_bit_6, primitive_value, der_primitive, constructed_value, der_constructed, Spells}
use Rattle.rpki_der.proofs.Written.{spells_followed, spells_primitive, spells_constructed, begins_constructed}
use Rattle.rpki_base.specs.ObjectIdentifiers.{common_name}
use Rattle.rpki_base.specs.Name.{each, name_attribute, relative_name, name, printable_string_tag, name_of_text}
use Rattle.rpki_base.specs.WritingLaws.{is_sequence, is_oid}

is_set : IsTag set
is_set = ((λ e. omega (arith, e), λ e. omega (arith, e), λ e. omega (arith, e)), refl)

is_printable : IsTag printable_string_tag
is_printable = ((λ e. omega (arith, e), λ e. omega (arith, e), λ e. omega (arith, e)), refl)

-- ---- how a text of forty octets is spelled in a name

abbrev attribute_in : List ℕ → List ℕ
attribute_in text = 6 ∷ 3 ∷ 85 ∷ 4 ∷ 3 ∷ 19 ∷ 40 ∷ text

constructed_is : (tag content : List ℕ) (n : ℕ) → length content ≡ n → der_constructed tag content ≡ with_bit_6 tag ++ (der_length n ++ content)
constructed_is tag content n e = ap (λ (m : ℕ). with_bit_6 tag ++ (der_length m ++ content)) e

attribute_is : (text : List ℕ) → length text ≡ 40 → der_primitive oid_tag common_name ++ der_primitive printable_string_tag text ≡ attribute_in text
attribute_is text e = ap (λ (m : ℕ). 6 ∷ 3 ∷ 85 ∷ 4 ∷ 3 ∷ 19 ∷ (der_length m ++ text)) e

relative_is : (text : List ℕ) → length text ≡ 40 → der_constructed sequence (der_primitive oid_tag common_name ++ der_primitive printable_string_tag text) ≡ 48 ∷ 47 ∷ attribute_in text
relative_is text e = ap (λ (c : List ℕ). der_constructed sequence c) (attribute_is text e) ∙ constructed_is sequence (attribute_in text) 47 (omega (arith, e))

names_are : (text : List ℕ) → length text ≡ 40 → der_constructed set (der_constructed sequence (der_primitive oid_tag common_name ++ der_primitive printable_string_tag text)) ≡ 49 ∷ 49 ∷ 48 ∷ 47 ∷ attribute_in text
names_are text e = ap (λ (c : List ℕ). der_constructed set c) (relative_is text e) ∙ constructed_is set (48 ∷ 47 ∷ attribute_in text) 49 (omega (arith, e))

pub made_of_forty : (text : List ℕ) → length text ≡ 40 → name_of_text text ≡ 48 ∷ 51 ∷ 49 ∷ 49 ∷ 48 ∷ 47 ∷ attribute_in text
made_of_forty text e = ap (λ (c : List ℕ). der_constructed sequence c) (names_are text e) ∙ constructed_is sequence (49 ∷ 49 ∷ 48 ∷ 47 ∷ attribute_in text) 51 (omega (arith, e))

-- ---- the value that it is

abbrev attribute_values : List ℕ → Values
attribute_values text = primitive_value oid_tag common_name ▸ primitive_value printable_string_tag text ▸ End

abbrev made_value : List ℕ → Value
made_value text = constructed_value sequence (constructed_value set (constructed_value sequence (attribute_values text) ▸ End) ▸ End)

spells_attribute : (mode : Mode) (text : List ℕ) → length text ≡ 40 → Spells mode (der_primitive oid_tag common_name ++ der_primitive printable_string_tag text) (attribute_values text)
spells_attribute mode text e = spells_followed mode _ _ _ _ (spells_primitive mode oid_tag common_name is_oid (omega arith)) (spells_primitive mode printable_string_tag text is_printable (omega (arith, e)))

spells_names : (mode : Mode) (text : List ℕ) → length text ≡ 40 → Spells mode (der_constructed set (der_constructed sequence (der_primitive oid_tag common_name ++ der_primitive printable_string_tag text))) (constructed_value set (constructed_value sequence (attribute_values text) ▸ End) ▸ End)
spells_names mode text e =
    let a = ap length (attribute_is text e) in
    let r = ap length (relative_is text e) in
    spells_constructed mode set _ _ is_set (omega (arith, e, r)) (spells_constructed mode sequence _ _ is_sequence (omega (arith, e, a)) (spells_attribute mode text e))

value_reads : (text : List ℕ) → name (made_value text) ≡ Some (spelling (made_value text))
unfolding name octets_of relative_name name_attribute each every within first done oid so ◌>>=◌
value_reads text = refl

pub made_name : (mode : Mode) (text rest : List ℕ) → length text ≡ 40 → (v : Value) × Begins mode (name_of_text text ++ rest) v rest × (name v ≡ Some (name_of_text text))
made_name mode text rest e =
    let n = ap length (names_are text e) in
    let begins = begins_constructed mode sequence _ rest _ is_sequence (omega (arith, e, n)) (spells_names mode text e) in
    let alone = begins_constructed mode sequence _ [] _ is_sequence (omega (arith, e, n)) (spells_names mode text e) in
    let is : name_of_text text ≡ spelling (made_value text) = sym (append-nil (name_of_text text)) ∙ alone.parts ∙ append-nil (spelling (made_value text)) in
    (made_value text, begins, value_reads text ∙ ap Some (sym is))

-- ---- a name that was read

from_octets : {X : Type 0} (o : Option X) (octets n : List ℕ) → (o >>= λ x. Some octets) ≡ Some n → n ≡ octets
unfolding ◌>>=◌
from_octets None octets n e = absurd cc
from_octets (Some x) octets n e = cc

pub read_again : (mode : Mode) (v : Value) (octets rest more : List ℕ) → Begins mode octets v rest → (n : List ℕ) → name v ≡ Some n → Begins mode (n ++ more) v more
unfolding name octets_of
read_again mode v octets rest more b n e = record { lawful = b.lawful; parts = ap (λ (o : List ℕ). o ++ more) (from_octets (within sequence (each relative_name) v) (spelling v) n e) }
