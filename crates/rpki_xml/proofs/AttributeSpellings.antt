-- Every lawful spelling of an attribute is read.
use Rattle.std.proofs.Common.{◌≡◌, ℕ, Bool, ◌&&◌, ◌||◌, not, true, false, eqb, List, [], ◌∷◌, ◌++◌, Some, refl, sym, ap, subst, ◌∙◌, append_assoc, arith}
use Rattle.std.proofs.lemmas.Bool.{eqb-true}
use Rattle.std.proofs.lemmas.Bool.Decides.{nat_tests}
use Rattle.std.proofs.lemmas.List.Folds.{list_all-append}
use Rattle.std.specs.List.{list_all}
use Rattle.std.specs.Prelude.{codes}
use Rattle.std.specs.Str.{bytes_eq}
use Rattle.rpki_common.specs.Chaining.{◌>>=◌}
use Rattle.rpki_common.proofs.Truths.{both, same_octets}
use Rattle.rpki_xml.specs.AttributeSpelling.{is_entity, is_itself, IsValueSpelling, concatenated, IsAttributeSpelling}
use Rattle.rpki_xml.specs.Content.{is_white}
use Rattle.rpki_xml.specs.Element.{Attribute, is_nil}
use Rattle.rpki_xml.specs.Lexing.{any_entity_at, character_at, ends_at, value_in, quoted_at, past_white, name_at, attribute_at, begins_white, no_attribute}
use Rattle.rpki_xml.specs.Name.{is_name, is_name_octet}
use Rattle.rpki_xml.specs.Runs.{RunsTo}
use Rattle.rpki_xml.proofs.Repetitions.{characters_both}
use Rattle.rpki_xml.proofs.Spelled.{Stops, front_again, past_white_name, first_goes_on}

either : {P : Type 0} (a b : Bool) → (a ≡ true → P) → (b ≡ true → P) → (a || b) ≡ true → P
either true b f g e = f refl
either false b f g e = g e

-- ---- characters

-- reading goes on at the spelling of a character, and gives it
abbrev IsRead : Bool → ℕ → ℕ → List ℕ → List ℕ → Type 0
IsRead at_end quote c s tail = (ends_at at_end quote (s ++ tail) ≡ false) × (character_at (s ++ tail) ≡ Some (c, tail))

by_quote : (P : ℕ → Type 0) (quote : ℕ) → P 34 → P 39 → (eqb quote 34 || eqb quote 39) ≡ true → P quote
by_quote P quote p q e = either (eqb quote 34) (eqb quote 39) (λ f. subst P (sym (eqb-true quote 34 f)) p) (λ f. subst P (sym (eqb-true quote 39 f)) q) e

one_entity : (at_end : Bool) (quote k c : ℕ) (t s tail : List ℕ) → IsRead at_end quote k t tail → (eqb c k && bytes_eq s t) ≡ true → IsRead at_end quote c s tail
one_entity at_end quote k c t s tail h e =
    let p = both (eqb c k) (bytes_eq s t) e in
    subst (λ (d : ℕ). IsRead at_end quote d s tail) (sym (eqb-true c k p.0)) (subst (λ (u : List ℕ). IsRead at_end quote k u tail) (sym (same_octets s t p.1)) h)

entity_read : (at_end : Bool) (quote c : ℕ) (s tail : List ℕ) → eqb 38 quote ≡ false → is_entity c s ≡ true → IsRead at_end quote c s tail
unfolding character_at any_entity_at ◌>>=◌
entity_read at_end quote c s tail q e =
    either (first_four) (eqb c 39 && bytes_eq s (codes "&apos;"))
    (either (first_three) (eqb c 34 && bytes_eq s (codes "&quot;"))
    (either (first_two) (eqb c 62 && bytes_eq s (codes "&gt;"))
    (either (eqb c 38 && bytes_eq s (codes "&amp;")) (eqb c 60 && bytes_eq s (codes "&lt;"))
    (one_entity at_end quote 38 c (codes "&amp;") s tail (q, refl)) (one_entity at_end quote 60 c (codes "&lt;") s tail (q, refl)))
    (one_entity at_end quote 62 c (codes "&gt;") s tail (q, refl)))
    (one_entity at_end quote 34 c (codes "&quot;") s tail (q, refl)))
    (one_entity at_end quote 39 c (codes "&apos;") s tail (q, refl))
    e
  where
    first_two : Bool
    first_two = (eqb c 38 && bytes_eq s (codes "&amp;")) || (eqb c 60 && bytes_eq s (codes "&lt;"))

    first_three : Bool
    first_three = first_two || (eqb c 62 && bytes_eq s (codes "&gt;"))

    first_four : Bool
    first_four = first_three || (eqb c 34 && bytes_eq s (codes "&quot;"))

no_one : (a b c : Bool) → not (a || b || c) ≡ true → (a ≡ false) × (b ≡ false) × (c ≡ false)
no_one false false false e = (refl, refl, refl)
no_one true b c e = absurd cc
no_one false true c e = absurd cc
no_one false false true e = absurd cc

itself_read : (at_end : Bool) (quote c : ℕ) (s tail : List ℕ) → is_itself quote c s ≡ true → IsRead at_end quote c s tail
unfolding character_at
itself_read at_end quote c s tail e =
    let p = both (bytes_eq s (c ∷ [])) (not (eqb c 38 || eqb c 60 || eqb c quote)) e in
    let n = no_one (eqb c 38) (eqb c 60) (eqb c quote) p.1 in
    subst (λ (u : List ℕ). IsRead at_end quote c u tail) (sym (same_octets s (c ∷ []) p.0)) (n.2, rw (n.0, n.1) refl)

pub spelled_character_read : (at_end : Bool) (quote c : ℕ) (s tail : List ℕ) → eqb 38 quote ≡ false → (is_itself quote c s || is_entity c s) ≡ true → (ends_at at_end quote (s ++ tail) ≡ false) × (character_at (s ++ tail) ≡ Some (c, tail))
spelled_character_read at_end quote c s tail q e = either (is_itself quote c s) (is_entity c s) (itself_read at_end quote c s tail) (entity_read at_end quote c s tail q) e

quote_same : (quote : ℕ) → (eqb quote 34 || eqb quote 39) ≡ true → eqb quote quote ≡ true
quote_same quote q = by_quote (λ k. eqb k k ≡ true) quote refl refl q

quote_no_entity : (quote : ℕ) → (eqb quote 34 || eqb quote 39) ≡ true → eqb 38 quote ≡ false
quote_no_entity quote q = by_quote (λ k. eqb 38 k ≡ false) quote refl refl q

-- ---- values

-- spelled characters are read up to where reading stops
pub characters_run : (at_end : Bool) (quote : ℕ) (characters : List (List ℕ)) (value rest : List ℕ) → eqb 38 quote ≡ false → ends_at at_end quote rest ≡ true → IsValueSpelling quote characters value
    → RunsTo (ends_at at_end quote) character_at (concatenated characters ++ rest) value rest
characters_run at_end quote [] [] rest q stop h = (refl, stop)
characters_run at_end quote [] (c ∷ value) rest q stop h = absurd h
characters_run at_end quote (s ∷ more) [] rest q stop h = absurd h
characters_run at_end quote (s ∷ more) (c ∷ value) rest q stop h =
    let tail = concatenated more ++ rest in
    let read = spelled_character_read at_end quote c s tail q h.0 in
    let regroup : (s ++ concatenated more) ++ rest ≡ s ++ tail = append_assoc s (concatenated more) rest in
    (ap (ends_at at_end quote) regroup ∙ read.0, (tail, ap character_at regroup ∙ read.1, characters_run at_end quote more value rest q stop h.1))

value_read : (quote : ℕ) (characters : List (List ℕ)) (value rest : List ℕ) → (eqb quote 34 || eqb quote 39) ≡ true → IsValueSpelling quote characters value → value_in quote (concatenated characters ++ quote ∷ rest) ≡ Some (value, rest)
unfolding value_in ◌>>=◌
value_read quote characters value rest q h =
    let b = concatenated characters ++ quote ∷ rest in
    let run = (characters_both false quote b value (quote ∷ rest)).1 (characters_run false quote characters value (quote ∷ rest) (quote_no_entity quote q) (quote_same quote q) h) in
    rw (run, quote_same quote q) refl

-- ---- white space and names

pub white_passed : (w b : List ℕ) → list_all is_white w ≡ true → past_white (w ++ b) ≡ past_white b
white_passed [] b h = refl
white_passed (c ∷ w) b h = let p = both (is_white c) (list_all is_white w) h in rw p.0 (white_passed w b p.1)

pub white_no_name : (c : ℕ) → is_white c ≡ true → is_name_octet c ≡ false
white_no_name c h = grind (arith, nat_tests)

name_stops : (w : List ℕ) (c : ℕ) (b : List ℕ) → list_all is_white w ≡ true → is_name_octet c ≡ false → Stops is_name_octet (w ++ c ∷ b)
name_stops [] c b h e = (rw e refl, rw e refl)
name_stops (d ∷ w) c b h e = let no = white_no_name d (both (is_white d) (list_all is_white w) h).0 in (rw no refl, rw no refl)

pub name_read : (n rest : List ℕ) → is_name n ≡ true → list_all is_name_octet n ≡ true → Stops is_name_octet rest → name_at (n ++ rest) ≡ Some (n, rest)
unfolding name_at
name_read n rest lawful octets s =
    let q = front_again is_name_octet n rest octets s in
    rw (q.0, q.1, lawful) refl

-- ---- attributes

three : (a b c : List ℕ) → list_all is_white (a ++ (b ++ c)) ≡ true → (list_all is_white a ≡ true) × (list_all is_white b ≡ true) × (list_all is_white c ≡ true)
three a b c h =
    let p = both (list_all is_white a) (list_all is_white (b ++ c)) (sym (list_all-append is_white a (b ++ c)) ∙ h) in
    let q = both (list_all is_white b) (list_all is_white c) (sym (list_all-append is_white b c) ∙ p.1) in
    (p.0, q.0, q.1)

pub regrouped : (w n v u x rest : List ℕ) (q : ℕ) → (w ++ (n ++ (v ++ 61 ∷ (u ++ q ∷ (x ++ q ∷ []))))) ++ rest ≡ w ++ (n ++ (v ++ 61 ∷ (u ++ q ∷ (x ++ q ∷ rest))))
regrouped w n v u x rest q = simp append_assoc

quoted_read : (quote : ℕ) (u b value rest : List ℕ) → (eqb quote 34 || eqb quote 39) ≡ true → list_all is_white u ≡ true → value_in quote b ≡ Some (value, rest) → quoted_at (past_white (u ++ quote ∷ b)) ≡ Some (value, rest)
unfolding quoted_at
quoted_read quote u b value rest q white e =
    let P : ℕ → Type 0 = λ k. past_white (k ∷ b) ≡ k ∷ b in
    ap quoted_at (white_passed u (quote ∷ b) white ∙ by_quote P quote refl refl q) ∙ rw q e

spelled_read : (w n v u b : List ℕ) (quote : ℕ) (value rest : List ℕ) → list_all is_white w ≡ true → list_all is_white v ≡ true → list_all is_white u ≡ true → is_name n ≡ true → list_all is_name_octet n ≡ true → (eqb quote 34 || eqb quote 39) ≡ true
    → value_in quote b ≡ Some (value, rest) → attribute_at (w ++ (n ++ (v ++ 61 ∷ (u ++ quote ∷ b)))) ≡ Some (record { name = n; value = value }, rest)
unfolding attribute_at ◌>>=◌
spelled_read w n v u b quote value rest white-w white-v white-u lawful octets q e =
    let behind_name = v ++ 61 ∷ (u ++ quote ∷ b) in
    let front : past_white (w ++ (n ++ behind_name)) ≡ n ++ behind_name = white_passed w (n ++ behind_name) white-w ∙ past_white_name n behind_name lawful in
    rw (front, name_read n behind_name lawful octets (name_stops v 61 (u ++ quote ∷ b) white-v refl), white_passed v (61 ∷ (u ++ quote ∷ b)) white-v, quoted_read quote u b value rest q white-u e) refl

pub attribute_read : (s : List ℕ) (a : Attribute) (rest : List ℕ) → IsAttributeSpelling s a → attribute_at (s ++ rest) ≡ Some (a, rest)
attribute_read s a rest h =
    let x = concatenated h.characters in
    let w = three h.before h.behind_name h.before_value h.white in
    ap attribute_at (ap (λ (l : List ℕ). l ++ rest) h.is ∙ regrouped h.before a.name h.behind_name h.before_value x rest h.quote)
    ∙ spelled_read h.before a.name h.behind_name h.before_value (x ++ h.quote ∷ rest) h.quote a.value rest w.0 w.1 w.2 h.name h.name_octets h.quoted
    (value_read h.quote h.characters a.value rest h.quoted h.value)

begins : (w b : List ℕ) → is_nil w ≡ false → list_all is_white w ≡ true → begins_white (w ++ b) ≡ true
begins [] b some h = absurd cc
begins (c ∷ w) b some h = (both (is_white c) (list_all is_white w) h).0

pub attribute_stands : (s : List ℕ) (a : Attribute) (rest : List ℕ) → IsAttributeSpelling s a → no_attribute (s ++ rest) ≡ false
attribute_stands s a rest h =
    let x = concatenated h.characters in
    let w = three h.before h.behind_name h.before_value h.white in
    let tail = h.behind_name ++ 61 ∷ (h.before_value ++ h.quote ∷ (x ++ h.quote ∷ rest)) in
    let on = begins h.before (a.name ++ tail) h.some_white w.0 in
    let past = white_passed h.before (a.name ++ tail) w.0 ∙ past_white_name a.name tail h.name in
    let no = first_goes_on a.name tail h.name in
    ap no_attribute (ap (λ (l : List ℕ). l ++ rest) h.is ∙ regrouped h.before a.name h.behind_name h.before_value x rest h.quote)
    ∙ rw (on, past, no) refl
