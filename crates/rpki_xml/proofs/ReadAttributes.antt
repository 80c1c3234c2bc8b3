-- What is read as an attribute was spelled as it.
use Rattle.std.proofs.Common.{◌≡◌, ℕ, Bool, ◌||◌, not, true, false, cond, eqb, List, [], ◌∷◌, ◌++◌, Option, Some, None, refl, sym, ap, subst, ◌∙◌, append_assoc}
use Rattle.std.proofs.lemmas.Bool.{eqb-true}
use Rattle.std.proofs.lemmas.List.Folds.{list_all-append}
use Rattle.std.specs.List.{list_all}
use Rattle.std.specs.Prelude.{codes}
use Rattle.rpki_common.specs.Chaining.{◌>>=◌}
use Rattle.rpki_common.proofs.Truths.{none_some, same_some, equal_octets}
use Rattle.rpki_xml.specs.AttributeSpelling.{is_entity, is_itself, IsValueSpelling, concatenated}
use Rattle.rpki_xml.specs.Content.{behind, is_white}
use Rattle.rpki_xml.specs.Element.{Attribute, is_nil}
use Rattle.rpki_xml.specs.Lexing.{entity_at, any_entity_at, character_at, ends_at, until, value_in, quoted_at, front_of, past_white, name_at, attribute_at, begins_white, begins_close, no_attribute}
use Rattle.rpki_xml.specs.PieceSpelling.{BeginsWithAttribute, AreAttributeSpellings}
use Rattle.rpki_xml.specs.Runs.{RunsTo}
use Rattle.rpki_xml.proofs.AttributeSpellings.{regrouped, attribute_read, attribute_stands}
use Rattle.rpki_xml.proofs.Fronts.{came, tested, or_either, front_is, front_passes, white_front, name_is}
use Rattle.rpki_xml.proofs.Repetitions.{characters_both}
use Rattle.rpki_xml.proofs.Spelled.{true_false}

-- ---- characters

abbrev IsCharacter : ℕ → ℕ → List ℕ → Type 0
IsCharacter stop c s = (is_itself stop c s || is_entity c s) ≡ true

-- b begins with a spelling of the character
abbrev Begins : ℕ → List ℕ → ℕ → List ℕ → Type 0
Begins stop b c rest = (s : List ℕ) × (b ≡ s ++ rest) × IsCharacter stop c s

one_entity : (stop k c : ℕ) (name b rest : List ℕ) → IsCharacter stop k (38 ∷ name) → entity_at name k b ≡ Some (c, rest) → Begins stop (38 ∷ b) c rest
one_entity stop k c name b rest h e =
    let p = came (behind name b) (λ r. Some (k, r)) (c, rest) e in
    let q : (k, p.0) ≡ (c, rest) = same_some (k, p.0) (c, rest) p.2 in
    let left : p.0 ≡ rest = ap (λ (x : ℕ × List ℕ). x.1) q in
    (38 ∷ name, ap (λ (l : List ℕ). 38 ∷ l) (front_is name b p.0 p.1 ∙ ap (λ (l : List ℕ). name ++ l) left), subst (λ (d : ℕ). IsCharacter stop d (38 ∷ name)) (ap (λ (x : ℕ × List ℕ). x.0) q) h)

entity_is : (stop c : ℕ) (b rest : List ℕ) → any_entity_at b ≡ Some (c, rest) → Begins stop (38 ∷ b) c rest
unfolding any_entity_at
entity_is stop c b rest e =
    or_either (entity_at (codes "amp;") 38 b) _ (c, rest) (one_entity stop 38 c (codes "amp;") b rest refl)
    (or_either (entity_at (codes "lt;") 60 b) _ (c, rest) (one_entity stop 60 c (codes "lt;") b rest refl)
    (or_either (entity_at (codes "gt;") 62 b) _ (c, rest) (one_entity stop 62 c (codes "gt;") b rest refl)
    (or_either (entity_at (codes "quot;") 34 b) _ (c, rest) (one_entity stop 34 c (codes "quot;") b rest refl) (one_entity stop 39 c (codes "apos;") b rest refl))))
    e

itself_is : (stop d c : ℕ) (b rest : List ℕ) → eqb d 38 ≡ false → eqb d 60 ≡ false → eqb d stop ≡ false → ◌≡◌ {A = ℕ × List ℕ} (d, b) (c, rest) → Begins stop (d ∷ b) c rest
itself_is stop d c b rest f g h q =
    let itself : IsCharacter stop d (d ∷ []) = rw (equal_octets (d ∷ []), f, g, h) refl in
    (d ∷ [], ap (λ (x : ℕ × List ℕ). d ∷ x.1) q, subst (λ (k : ℕ). IsCharacter stop k (d ∷ [])) (ap (λ (x : ℕ × List ℕ). x.0) q) itself)

character_is : (at_end : Bool) (stop : ℕ) (b : List ℕ) (c : ℕ) (rest : List ℕ) → ends_at at_end stop b ≡ false → character_at b ≡ Some (c, rest) → Begins stop b c rest
unfolding character_at
character_is at_end stop [] c rest off e = absurd (none_some (c, rest) e)
character_is at_end stop (d ∷ b) c rest off e = go (eqb d 38) refl (eqb d 60) refl e
  where
    go : (x : Bool) → eqb d 38 ≡ x → (y : Bool) → eqb d 60 ≡ y → cond {A = Option (ℕ × List ℕ)} x (any_entity_at b) (cond y None (Some (d, b))) ≡ Some (c, rest) → Begins stop (d ∷ b) c rest
    go true f y g k = subst (λ (z : ℕ). Begins stop (z ∷ b) c rest) (sym (eqb-true d 38 f)) (entity_is stop c b rest k)
    go false f true g k = absurd (none_some (c, rest) k)
    go false f false g k = itself_is stop d c b rest f g off (same_some (d, b) (c, rest) k)

-- characters that were read one after the other were spelled so
pub characters_are : (at_end : Bool) (stop : ℕ) (b text rest : List ℕ) → RunsTo (ends_at at_end stop) character_at b text rest → (characters : List (List ℕ)) × (b ≡ concatenated characters ++ rest) × IsValueSpelling stop characters text
characters_are at_end stop b [] rest h = ([], h.0, tt)
characters_are at_end stop b (c ∷ text) rest h =
    let x = character_is at_end stop b c h.1.0 h.0 h.1.1 in
    let more = characters_are at_end stop h.1.0 text rest h.1.2 in
    (x.0 ∷ more.0, x.1 ∙ ap (λ (l : List ℕ). x.0 ++ l) more.1 ∙ sym (append_assoc x.0 (concatenated more.0) rest), (x.2, more.2))

-- ---- values

value_is : (quote : ℕ) (b value rest : List ℕ) → value_in quote b ≡ Some (value, rest) → (characters : List (List ℕ)) × (b ≡ concatenated characters ++ quote ∷ rest) × IsValueSpelling quote characters value
unfolding value_in
value_is quote b value rest e =
    let p = came (until (ends_at false quote) character_at b) (λ v. behind (quote ∷ []) v.1 >>= λ r. Some (v.0, r)) (value, rest) e in
    let q = came (behind (quote ∷ []) p.0.1) (λ r. Some (p.0.0, r)) (value, rest) p.2 in
    let same : (p.0.0, q.0) ≡ (value, rest) = same_some (p.0.0, q.0) (value, rest) q.2 in
    let runs = characters_are false quote b p.0.0 p.0.1 ((characters_both false quote b p.0.0 p.0.1).0 p.1) in
    let left : p.0.1 ≡ quote ∷ rest = front_is (quote ∷ []) p.0.1 q.0 q.1 ∙ ap (λ (x : List ℕ × List ℕ). quote ∷ x.1) same in
    (runs.0, runs.1 ∙ ap (λ (l : List ℕ). concatenated runs.0 ++ l) left, subst (λ (v : List ℕ). IsValueSpelling quote runs.0 v) (ap (λ (x : List ℕ × List ℕ). x.0) same) runs.2)

quoted_is : (b value rest : List ℕ) → quoted_at b ≡ Some (value, rest) → (quote : ℕ) × (inside : List ℕ) × (b ≡ quote ∷ inside) × ((eqb quote 34 || eqb quote 39) ≡ true) × (value_in quote inside ≡ Some (value, rest))
unfolding quoted_at
quoted_is [] value rest e = absurd (none_some (value, rest) e)
quoted_is (c ∷ b) value rest e =
    let p = tested (eqb c 34 || eqb c 39) (value_in c b) (value, rest) e in
    (c, b, refl, p.0, p.1)

-- ---- attributes

chain : (b b1 b2 b3 b4 b5 b6 w n v u x rest : List ℕ) (q : ℕ) → b ≡ w ++ b1 → b1 ≡ n ++ b2 → b2 ≡ v ++ b3 → b3 ≡ 61 ∷ b4 → b4 ≡ u ++ b5 → b5 ≡ q ∷ b6 → b6 ≡ x ++ q ∷ rest → b ≡ w ++ (n ++ (v ++ 61 ∷ (u ++ q ∷ (x ++ q ∷ rest))))
chain b b1 b2 b3 b4 b5 b6 w n v u x rest q e1 e2 e3 e4 e5 e6 e7 = cc

some_white : (b : List ℕ) → begins_white b ≡ true → is_nil (front_of is_white b) ≡ false
some_white [] h = absurd (true_false (sym h))
some_white (c ∷ b) h = rw h refl

all_white : (a b c : List ℕ) → list_all is_white a ≡ true → list_all is_white b ≡ true → list_all is_white c ≡ true → list_all is_white (a ++ (b ++ c)) ≡ true
all_white a b c f g h = list_all-append is_white a (b ++ c) ∙ rw f (list_all-append is_white b c ∙ rw g h)

attribute_built : (b n behind_name after value rest : List ℕ) → begins_white b ≡ true → name_at (past_white b) ≡ Some (n, behind_name) → behind (codes "=") (past_white behind_name) ≡ Some after → quoted_at (past_white after) ≡ Some (value, rest) → BeginsWithAttribute b (record { name = n; value = value }) rest
attribute_built b n behind_name after value rest on e f g =
    let w = front_of is_white b in
    let v = front_of is_white behind_name in
    let u = front_of is_white after in
    let p = name_is (past_white b) n behind_name e in
    let q = quoted_is (past_white after) value rest g in
    let r = value_is q.0 q.1 value rest q.4 in
    let x = concatenated r.0 in
    record {
      octets = w ++ (n ++ (v ++ 61 ∷ (u ++ q.0 ∷ (x ++ q.0 ∷ []))));
      is = chain b (past_white b) behind_name (past_white behind_name) after (past_white after) q.1 w n v u x rest q.0 (white_front b) p.0 (white_front behind_name) (front_is (codes "=") (past_white behind_name) after f) (white_front after) q.2 r.1 ∙ sym (regrouped w n v u x rest q.0);
      spelled = record {
        before = w;
        behind_name = v;
        before_value = u;
        quote = q.0;
        characters = r.0;
        is = refl;
        some_white = some_white b on;
        white = all_white w v u (front_passes is_white b) (front_passes is_white behind_name) (front_passes is_white after);
        name = p.1;
        name_octets = p.2;
        quoted = q.3;
        value = r.2;
      };
    }

same_front : (b : List ℕ) (made a : Attribute) (left rest : List ℕ) → ◌≡◌ {A = Attribute × List ℕ} (made, left) (a, rest) → BeginsWithAttribute b made left → BeginsWithAttribute b a rest
same_front b made a left rest same h = subst (λ (x : Attribute × List ℕ). BeginsWithAttribute b x.0 x.1) same h

attribute_is : (b : List ℕ) (a : Attribute) (rest : List ℕ) → begins_white b ≡ true → attribute_at b ≡ Some (a, rest) → BeginsWithAttribute b a rest
unfolding attribute_at
attribute_is b a rest on e =
    let p = came (name_at (past_white b)) (λ n. behind (codes "=") (past_white n.1) >>= λ r. quoted_at (past_white r) >>= λ v. Some (record { name = n.0; value = v.0 }, v.1)) (a, rest) e in
    let q = came (behind (codes "=") (past_white p.0.1)) (λ r. quoted_at (past_white r) >>= λ v. Some (record { name = p.0.0; value = v.0 }, v.1)) (a, rest) p.2 in
    let r = came (quoted_at (past_white q.0)) (λ v. Some (record { name = p.0.0; value = v.0 }, v.1)) (a, rest) q.2 in
    let made : Attribute = record { name = p.0.0; value = r.0.0 } in
    same_front b made a r.0.1 rest (same_some (made, r.0.1) (a, rest) r.2) (attribute_built b p.0.0 p.0.1 q.0 r.0.0 r.0.1 on p.1 q.1 r.1)

pub stands_white : (b : List ℕ) → no_attribute b ≡ false → begins_white b ≡ true
stands_white b off = go (begins_white b) off
  where
    go : (x : Bool) → (not x || begins_close (past_white b)) ≡ false → x ≡ true
    go true e = refl
    go false e = absurd (true_false e)

-- where an attribute stands, what is read is what is spelled there
pub attribute_both : (b : List ℕ) (a : Attribute) (rest : List ℕ)
    → (((no_attribute b ≡ false) × (attribute_at b ≡ Some (a, rest))) → BeginsWithAttribute b a rest)
    × (BeginsWithAttribute b a rest → (no_attribute b ≡ false) × (attribute_at b ≡ Some (a, rest)))
attribute_both b a rest =
    (λ h. attribute_is b a rest (stands_white b h.0) h.1, λ h. (ap no_attribute h.is ∙ attribute_stands h.octets a rest h.spelled, ap attribute_at h.is ∙ attribute_read h.octets a rest h.spelled))

-- attributes that were read one after the other were spelled so
pub attributes_are : (b : List ℕ) (list : List Attribute) (rest : List ℕ) → RunsTo no_attribute attribute_at b list rest → (spellings : List (List ℕ)) × (b ≡ concatenated spellings ++ rest) × AreAttributeSpellings spellings list
attributes_are b [] rest h = ([], h.0, tt)
attributes_are b (a ∷ list) rest h =
    let x = (attribute_both b a h.1.0).0 (h.0, h.1.1) in
    let more = attributes_are h.1.0 list rest h.1.2 in
    (x.octets ∷ more.0, x.is ∙ ap (λ (l : List ℕ). x.octets ++ l) more.1 ∙ sym (append_assoc x.octets (concatenated more.0) rest), (x.spelled, more.2))

-- and what is spelled so is read one after the other
pub attributes_run : (spellings : List (List ℕ)) (list : List Attribute) (rest : List ℕ) → no_attribute rest ≡ true → AreAttributeSpellings spellings list → RunsTo no_attribute attribute_at (concatenated spellings ++ rest) list rest
attributes_run [] [] rest off h = (refl, off)
attributes_run [] (a ∷ list) rest off h = absurd h
attributes_run (s ∷ spellings) [] rest off h = absurd h
attributes_run (s ∷ spellings) (a ∷ list) rest off h =
    let tail = concatenated spellings ++ rest in
    let regroup : (s ++ concatenated spellings) ++ rest ≡ s ++ tail = append_assoc s (concatenated spellings) rest in
    (ap no_attribute regroup ∙ attribute_stands s a tail h.0, (tail, ap attribute_at regroup ∙ attribute_read s a tail h.0, attributes_run spellings list rest off h.1))
