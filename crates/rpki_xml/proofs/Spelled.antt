-- What is spelled is read again.
use Rattle.std.proofs.Common.{◌≡◌, ℕ, zero, suc, ◌<◌, ◌≤◌, Bool, ◌||◌, true, false, cond, eqb, List, [], ◌∷◌, ◌++◌, length, Option, Some, refl, sym, ap, subst, ◌∙◌, append_assoc, arith}
use Rattle.std.proofs.lemmas.Bool.{eqb-true}
use Rattle.std.proofs.lemmas.List.{length-append}
use Rattle.std.specs.List.{list_all, flat_map, AllByRecursion}
use Rattle.rpki_xml.specs.Element.{Attribute}
use Rattle.rpki_common.specs.Chaining.{◌>>=◌}
use Rattle.rpki_common.proofs.Truths.{both}
use Rattle.rpki_xml.specs.Content.{run, leaf, start, end, is_white}
use Rattle.rpki_xml.specs.Lexing.{any_entity_at, character_at, ends_at, repeated, until, value_in, quoted_at, front_of, back_of, past_white, name_at, attribute_at, begins_close, no_attribute, tag_at, end_at, run_at, markup_at, piece_at}
use Rattle.rpki_xml.specs.Name.{is_letter, is_name_octet, ends_name, is_name}
use Rattle.rpki_xml.specs.Spelling.{text_character, value_character, spelled_value, spelled_attribute, spelled_attributes, spelled_end}
use Rattle.rpki_xml.specs.PlainElement.{IsPlainName}

-- ---- characters

-- by which of three tests passes
pub by_three : (P : ℕ → Type 0) (x y z c : ℕ) → P x → P y → P z → (eqb c x ≡ false → eqb c y ≡ false → eqb c z ≡ false → P c) → P c
by_three P x y z c px py pz other = go (eqb c x) refl (eqb c y) refl (eqb c z) refl
  where
    go : (a : Bool) → eqb c x ≡ a → (b : Bool) → eqb c y ≡ b → (d : Bool) → eqb c z ≡ d → P c
    go true e b f d g = subst P (sym (eqb-true c x e)) px
    go false e true f d g = subst P (sym (eqb-true c y f)) py
    go false e false f true g = subst P (sym (eqb-true c z g)) pz
    go false e false f false g = other e f g

text_again : (c : ℕ) (rest : List ℕ) → character_at (text_character c ++ rest) ≡ Some (c, rest)
unfolding character_at any_entity_at ◌>>=◌
text_again c rest =
    let P : ℕ → Type 0 = λ k. character_at (text_character k ++ rest) ≡ Some (k, rest) in
    by_three P 38 60 62 c refl refl refl (λ e f g. rw (e, f, g) (rw (e, f) refl))

text_goes_on : (c : ℕ) (rest : List ℕ) → ends_at true 60 (text_character c ++ rest) ≡ false
text_goes_on c rest =
    let P : ℕ → Type 0 = λ k. ends_at true 60 (text_character k ++ rest) ≡ false in
    by_three P 38 60 62 c refl refl refl (λ e f g. rw (e, f, g) f)

text_longer : (c : ℕ) → 0 < length (text_character c)
text_longer c =
    let P : ℕ → Type 0 = λ k. 0 < length (text_character k) in
    by_three P 38 60 62 c (omega arith) (omega arith) (omega arith) (λ e f g. rw (e, f, g) (omega arith))

text_no_shorter : (t : List ℕ) → length t ≤ length (flat_map text_character t)
text_no_shorter [] = omega arith
text_no_shorter (c ∷ t) = omega (arith, text_no_shorter t, text_longer c, length-append (text_character c) (flat_map text_character t))

texts_again : (t : List ℕ) (rest : List ℕ) (n : ℕ) → length t < n → repeated (ends_at true 60) character_at n (flat_map text_character t ++ 60 ∷ rest) ≡ Some (t, 60 ∷ rest)
unfolding ◌>>=◌
texts_again [] rest zero lt = absurd (omega arith)
texts_again [] rest (suc n) lt = refl
texts_again (c ∷ t) rest zero lt = absurd (omega arith)
texts_again (c ∷ t) rest (suc n) lt =
    let more = flat_map text_character t ++ 60 ∷ rest in
    ap (repeated (ends_at true 60) character_at (suc n)) (append_assoc (text_character c) (flat_map text_character t) (60 ∷ rest))
    ∙ rw (text_goes_on c more, text_again c more, texts_again t rest n (omega arith)) refl

-- a text in front of a `<` is one run
text_run_again : (t rest : List ℕ) → run_at (flat_map text_character t ++ 60 ∷ rest) ≡ Some (run t, 60 ∷ rest)
unfolding run_at until ◌>>=◌
text_run_again t rest = rw (texts_again t rest (suc (length (flat_map text_character t ++ 60 ∷ rest))) (omega (arith, text_no_shorter t, length-append (flat_map text_character t) (60 ∷ rest)))) refl

piece_is_run : (c : ℕ) (b : List ℕ) → piece_at (text_character c ++ b) ≡ run_at (text_character c ++ b)
unfolding piece_at
piece_is_run c b =
    let P : ℕ → Type 0 = λ k. piece_at (text_character k ++ b) ≡ run_at (text_character k ++ b) in
    by_three P 38 60 62 c refl refl refl (λ e f g. rw (e, f, g) (rw f refl))

pub run_again : (c : ℕ) (t rest : List ℕ) → piece_at (flat_map text_character (c ∷ t) ++ 60 ∷ rest) ≡ Some (run (c ∷ t), 60 ∷ rest)
run_again c t rest =
    ap piece_at (append_assoc (text_character c) (flat_map text_character t) (60 ∷ rest)) ∙ piece_is_run c (flat_map text_character t ++ 60 ∷ rest)
    ∙ ap run_at (sym (append_assoc (text_character c) (flat_map text_character t) (60 ∷ rest))) ∙ text_run_again (c ∷ t) rest

pub value_again : (c : ℕ) (rest : List ℕ) → character_at (value_character c ++ rest) ≡ Some (c, rest)
unfolding character_at any_entity_at ◌>>=◌
value_again c rest =
    let P : ℕ → Type 0 = λ k. character_at (value_character k ++ rest) ≡ Some (k, rest) in
    by_three P 38 60 62 c refl refl refl (λ e f g. by_three P 34 39 39 c refl refl refl (λ h i j. rw (h, i, e, f, g) (rw (e, f) refl)))

pub value_goes_on : (c : ℕ) (rest : List ℕ) → ends_at false 34 (value_character c ++ rest) ≡ false
value_goes_on c rest =
    let P : ℕ → Type 0 = λ k. ends_at false 34 (value_character k ++ rest) ≡ false in
    by_three P 38 60 62 c refl refl refl (λ e f g. by_three P 34 39 39 c refl refl refl (λ h i j. rw (h, i, e, f, g) h))

longer : (c : ℕ) → 0 < length (value_character c)
longer c =
    let P : ℕ → Type 0 = λ k. 0 < length (value_character k) in
    by_three P 38 60 62 c (omega arith) (omega arith) (omega arith) (λ e f g. by_three P 34 39 39 c (omega arith) (omega arith) (omega arith) (λ h i j. rw (h, i, e, f, g) (omega arith)))

no_shorter : (v : List ℕ) → length v ≤ length (flat_map value_character v)
no_shorter [] = omega arith
no_shorter (c ∷ v) = omega (arith, no_shorter v, longer c, length-append (value_character c) (flat_map value_character v))

values_again : (v : List ℕ) (rest : List ℕ) (n : ℕ) → length v < n → repeated (ends_at false 34) character_at n (flat_map value_character v ++ 34 ∷ rest) ≡ Some (v, 34 ∷ rest)
unfolding ◌>>=◌
values_again [] rest zero lt = absurd (omega arith)
values_again [] rest (suc n) lt = refl
values_again (c ∷ v) rest zero lt = absurd (omega arith)
values_again (c ∷ v) rest (suc n) lt =
    let more = flat_map value_character v ++ 34 ∷ rest in
    ap (repeated (ends_at false 34) character_at (suc n)) (append_assoc (value_character c) (flat_map value_character v) (34 ∷ rest))
    ∙ rw (value_goes_on c more, value_again c more, values_again v rest n (omega arith)) refl

value_in_again : (v rest : List ℕ) → value_in 34 (spelled_value v ++ 34 ∷ rest) ≡ Some (v, rest)
unfolding value_in until spelled_value ◌>>=◌
value_in_again v rest = rw (values_again v rest (suc (length (flat_map value_character v ++ 34 ∷ rest))) (omega (arith, no_shorter v, length-append (flat_map value_character v) (34 ∷ rest)))) refl

-- ---- names

abbrev pub Stops : (ℕ → Bool) → List ℕ → Type 0
Stops passes rest = (front_of passes rest ≡ []) × (back_of passes rest ≡ rest)

pub front_again : (passes : ℕ → Bool) (n rest : List ℕ) → list_all passes n ≡ true → Stops passes rest → (front_of passes (n ++ rest) ≡ n) × (back_of passes (n ++ rest) ≡ rest)
front_again passes [] rest h s = s
front_again passes (c ∷ n) rest h s =
    let p = both (passes c) (list_all passes n) h in
    let q = front_again passes n rest p.1 s in
    (rw p.0 (ap (λ (l : List ℕ). c ∷ l) q.0), rw p.0 q.1)

name_again : (n rest : List ℕ) → IsPlainName n → Stops is_name_octet rest → name_at (n ++ rest) ≡ Some (n, rest)
unfolding name_at
name_again n rest h s =
    let q = front_again is_name_octet n rest h.octets s in
    rw (q.0, q.1, h.lawful) refl

-- a letter or a `_` is no white space, and begins no other piece
abbrev pub is_first : ℕ → Bool
is_first c = is_letter c || eqb c 95

first_of_name : (n : List ℕ) → is_name n ≡ true → (c : ℕ) × (more : List ℕ) × (n ≡ c ∷ more) × (is_first c ≡ true)
first_of_name [] h = absurd cc
first_of_name (c ∷ n) h = (c, n, refl, (both (is_first c) (ends_name false n) h).0)

pub true_false : true ≡ false → ⊥
true_false e = cc

unlike : (k c : ℕ) → is_first k ≡ false → is_first c ≡ true → eqb c k ≡ false
unlike k c no_first is_so = go (eqb c k) refl
  where
    go : (b : Bool) → eqb c k ≡ b → eqb c k ≡ false
    go true e = let same : is_first k ≡ true = ap is_first (sym (eqb-true c k e)) ∙ is_so in absurd (true_false (sym same ∙ no_first))
    go false e = e

not_white : (c : ℕ) → is_first c ≡ true → is_white c ≡ false
not_white c h = rw (unlike 9 c refl h, unlike 10 c refl h, unlike 13 c refl h, unlike 32 c refl h) refl

pub past_white_name : (n rest : List ℕ) → is_name n ≡ true → past_white (n ++ rest) ≡ n ++ rest
past_white_name n rest h =
    let f = first_of_name n h in
    ap (λ (l : List ℕ). past_white (l ++ rest)) f.2 ∙ rw (not_white f.0 f.3) (ap (λ (l : List ℕ). l ++ rest) (sym f.2))

-- ---- attributes

one_more_read : (stop : Bool) (read : Option (Attribute × List ℕ)) (a : Attribute) (more : List ℕ) (rest : List Attribute) (end_of : List ℕ) (k : ℕ) (b : List ℕ) → stop ≡ false → read ≡ Some (a, more) → repeated no_attribute attribute_at k more ≡ Some (rest, end_of)
    → cond {A = Option (List Attribute × List ℕ)} stop (Some ([], b)) (read >>= λ x. repeated no_attribute attribute_at k x.1 >>= λ others. Some (x.0 ∷ others.0, others.1)) ≡ Some (a ∷ rest, end_of)
unfolding ◌>>=◌
one_more_read stop read a more rest end_of k b on is others = rw (on, is, others) refl

attribute_again : (n v rest : List ℕ) → IsPlainName n → attribute_at (spelled_attribute n v ++ rest) ≡ Some (record { name = n; value = v }, rest)
unfolding attribute_at quoted_at ◌>>=◌
attribute_again n v rest h =
    let tail = 61 ∷ 34 ∷ (spelled_value v ++ 34 ∷ rest) in
    let regroup : spelled_attribute n v ++ rest ≡ 32 ∷ (n ++ tail) = ap (λ (l : List ℕ). 32 ∷ l) (append_assoc n (61 ∷ 34 ∷ (spelled_value v ++ 34 ∷ [])) rest ∙ ap (λ (l : List ℕ). n ++ 61 ∷ 34 ∷ l) (append_assoc (spelled_value v) (34 ∷ []) rest)) in
    ap attribute_at regroup ∙ rw (past_white_name n tail h.lawful, name_again n tail h (refl, refl), value_in_again v rest) refl

pub first_goes_on : (n rest : List ℕ) → is_name n ≡ true → begins_close (n ++ rest) ≡ false
first_goes_on n rest h =
    let f = first_of_name n h in
    ap (λ (l : List ℕ). begins_close (l ++ rest)) f.2 ∙ rw (unlike 47 f.0 refl f.3, unlike 62 f.0 refl f.3) refl

attribute_goes_on : (n v rest : List ℕ) → is_name n ≡ true → no_attribute (spelled_attribute n v ++ rest) ≡ false
attribute_goes_on n v rest h =
    let tail = 61 ∷ 34 ∷ (spelled_value v ++ 34 ∷ []) in
    ap begins_close (ap past_white (append_assoc n tail rest) ∙ past_white_name n (tail ++ rest) h) ∙ first_goes_on n (tail ++ rest) h

abbrev pub ArePlainAttributes : List Attribute → Type 0
ArePlainAttributes list = AllByRecursion (λ a. IsPlainName a.name) list

attributes_again : (list : List Attribute) (tail : List ℕ) (n : ℕ) → length list < n → ArePlainAttributes list → no_attribute tail ≡ true → repeated no_attribute attribute_at n (spelled_attributes list ++ tail) ≡ Some (list, tail)
attributes_again [] tail zero lt h off = absurd (omega arith)
attributes_again [] tail (suc n) lt h off = rw off refl
attributes_again (a ∷ list) tail zero lt h off = absurd (omega arith)
attributes_again (a ∷ list) tail (suc n) lt h off =
    let more = spelled_attributes list ++ tail in
    ap (repeated no_attribute attribute_at (suc n)) (append_assoc (spelled_attribute a.name a.value) (spelled_attributes list) tail)
    ∙ step a.name a.value more list tail n (attribute_goes_on a.name a.value more h.0.lawful) (attribute_again a.name a.value more h.0) (attributes_again list tail n (omega arith) h.1 off)
  where
    step : (name value more : List ℕ) (rest : List Attribute) (end_of : List ℕ) (k : ℕ) → no_attribute (spelled_attribute name value ++ more) ≡ false → attribute_at (spelled_attribute name value ++ more) ≡ Some (record { name = name; value = value }, more) → repeated no_attribute attribute_at k more ≡ Some (rest, end_of)
        → repeated no_attribute attribute_at (suc k) (spelled_attribute name value ++ more) ≡ Some (record { name = name; value = value } ∷ rest, end_of)
    step name value more rest end_of k on read others = one_more_read (no_attribute (spelled_attribute name value ++ more)) (attribute_at (spelled_attribute name value ++ more)) (record { name = name; value = value }) more rest end_of k (spelled_attribute name value ++ more) on read others

fewer : (list : List Attribute) → length list ≤ length (spelled_attributes list)
fewer [] = omega arith
fewer (a ∷ list) = omega (arith, fewer list, length-append (spelled_attribute a.name a.value) (spelled_attributes list))

until_again : (list : List Attribute) (tail : List ℕ) → ArePlainAttributes list → no_attribute tail ≡ true → until no_attribute attribute_at (spelled_attributes list ++ tail) ≡ Some (list, tail)
unfolding until
until_again list tail h off = attributes_again list tail (suc (length (spelled_attributes list ++ tail))) (omega (arith, fewer list, length-append (spelled_attributes list) tail)) h off

-- ---- tags

stops_there : (list : List Attribute) (tail : List ℕ) → Stops is_name_octet tail → Stops is_name_octet (spelled_attributes list ++ tail)
stops_there [] tail s = s
stops_there (a ∷ list) tail s = (refl, refl)

pub markup : (n rest : List ℕ) → is_name n ≡ true → piece_at (60 ∷ (n ++ rest)) ≡ tag_at (n ++ rest)
unfolding piece_at markup_at
markup n rest h =
    let f = first_of_name n h in
    ap (λ (l : List ℕ). piece_at (60 ∷ (l ++ rest))) f.2 ∙ rw (unlike 47 f.0 refl f.3, unlike 33 f.0 refl f.3, unlike 63 f.0 refl f.3) refl ∙ ap (λ (l : List ℕ). tag_at (l ++ rest)) (sym f.2)

pub leaf_again : (n : List ℕ) (list : List Attribute) (rest : List ℕ) → IsPlainName n → ArePlainAttributes list → piece_at (60 ∷ (n ++ (spelled_attributes list ++ 47 ∷ 62 ∷ rest))) ≡ Some (leaf (record { name = n; attributes = list }), rest)
unfolding tag_at ◌>>=◌
leaf_again n list rest h as_plain =
    markup n (spelled_attributes list ++ 47 ∷ 62 ∷ rest) h.lawful ∙ rw (name_again n (spelled_attributes list ++ 47 ∷ 62 ∷ rest) h (stops_there list (47 ∷ 62 ∷ rest) (refl, refl)), until_again list (47 ∷ 62 ∷ rest) as_plain refl) refl

pub start_again : (n : List ℕ) (list : List Attribute) (rest : List ℕ) → IsPlainName n → ArePlainAttributes list → piece_at (60 ∷ (n ++ (spelled_attributes list ++ 62 ∷ rest))) ≡ Some (start (record { name = n; attributes = list }), rest)
unfolding tag_at ◌>>=◌
start_again n list rest h as_plain =
    markup n (spelled_attributes list ++ 62 ∷ rest) h.lawful ∙ rw (name_again n (spelled_attributes list ++ 62 ∷ rest) h (stops_there list (62 ∷ rest) (refl, refl)), until_again list (62 ∷ rest) as_plain refl) refl

pub end_again : (n rest : List ℕ) → IsPlainName n → piece_at (spelled_end n ++ rest) ≡ Some (end n, rest)
unfolding piece_at markup_at end_at ◌>>=◌
end_again n rest h = ap (λ (l : List ℕ). piece_at (60 ∷ 47 ∷ l)) (append_assoc n (62 ∷ []) rest) ∙ rw (name_again n (62 ∷ rest) h (refl, refl)) refl
