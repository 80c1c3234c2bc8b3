-- How long texts, attributes and elements are spelled, and how long what is read of an element is.
use Rattle.std.proofs.Common.{◌≡◌, ℕ, ◌+◌, ◌*◌, ◌≤◌, Bool, true, false, cond, List, [], ◌∷◌, ◌++◌, length, Option, Some, None, filter, refl, ap, subst, arith, length-append, IfSome}
use Rattle.std.specs.Prelude.{codes, nat_eq, if◌then◌else◌, unwrap_or}
use Rattle.std.specs.List.{flat_map, AllByRecursion}
use Rattle.std.proofs.lemmas.List.{append-nil}
use Rattle.std.proofs.lemmas.List.Sums.{length-filter, count_by-le-length}
use Rattle.base64.specs.Engines.{standard}
use Rattle.base64.specs.GeneralPurpose.{encode_of}
use Rattle.rpki_common.specs.Chaining.{◌>>=◌}
use Rattle.rpki_common.specs.Items as items
use Rattle.rpki_common.proofs.Truths.{none_some, same_some, same_octets}
use Rattle.rpki_text.specs.Base64.{is_not_space, base64_content}
use Rattle.rpki_text.specs.Uri.{Kind, fault_of}
use Rattle.rpki_xml.specs.Draft.{optional_attribute}
use Rattle.rpki_xml.specs.Element.{Attribute, Head, Elements, none, first, Element, elements_of, listed}
use Rattle.rpki_xml.specs.Lettered.{AreOctets, IsLetteredHead, AreLettered}
use Rattle.rpki_xml.specs.Name.{behind_colon, local_name}
use Rattle.rpki_xml.specs.Spelling.{text_character, value_character, spelled, spelled_all, spelled_attribute, spelled_attributes, spelled_value, spelled_text, spelled_end}
use Rattle.rpki_xml.specs.Tables.{require, is_named, is_called, value_of, optional, optional_by, required, where_there, each_of, at_most_one_child}
use Rattle.rpki_xml.specs.Trimmed.{AreTrimmed}
use Rattle.rpki_xmltext.specs.Inside.{text_inside}
use Rattle.rpki_xmltext.specs.Parts.{leaf}
use Rattle.rpki_xmltext.specs.UriText.{uri_of_text}
use Rattle.rpki_xmltext.proofs.Attributes.{then_some, some_holds, found_holds, last_holds}
use Rattle.rpki_xmltext.proofs.Elements.{leaf_spelled, whole_text}
use Rattle.rpki_xmltext.proofs.Lawful.{IsLawful, there}
use Rattle.rpki_xmltext.proofs.Sizes.{values, weight, size, filter_values}
use Rattle.rpki_xmltext.proofs.Spelt.{content_spelled}
use Rattle.rpki_xmltext.proofs.Uris.{lawful_text}

-- a text that may be absent, of at most so many octets
abbrev pub AtMost : ℕ → Option (List ℕ) → Type 0
AtMost n o = IfSome o (λ v. length v ≤ n)

-- ---- what texts are spelled as

pub value_size : (c : ℕ) → length (value_character c) ≤ 6
value_size c = go (nat_eq c 34) (nat_eq c 39) (nat_eq c 38) (nat_eq c 60) (nat_eq c 62)
  where
    go : (p q r s t : Bool) → length (if p then codes "&quot;" else if q then codes "&apos;" else if r then codes "&amp;" else if s then codes "&lt;" else if t then codes "&gt;" else c ∷ []) ≤ 6
    go true q r s t = omega arith
    go false true r s t = omega arith
    go false false true s t = omega arith
    go false false false true t = omega arith
    go false false false false true = omega arith
    go false false false false false = omega arith

pub text_size : (c : ℕ) → length (text_character c) ≤ 6
text_size c = go (nat_eq c 38) (nat_eq c 60) (nat_eq c 62)
  where
    go : (r s t : Bool) → length (if r then codes "&amp;" else if s then codes "&lt;" else if t then codes "&gt;" else c ∷ []) ≤ 6
    go true s t = omega arith
    go false true t = omega arith
    go false false true = omega arith
    go false false false = omega arith

pub flat_size : (f : ℕ → List ℕ) → ((c : ℕ) → length (f c) ≤ 6) → (text : List ℕ) → length (flat_map f text) ≤ 6 * length text
flat_size f h [] = omega arith
flat_size f h (c ∷ text) =
    let a = h c in
    let b = flat_size f h text in
    let e = length-append (f c) (flat_map f text) in
    omega (arith, a, b, e)

pub attribute_size : (name value : List ℕ) → length (spelled_attribute name value) ≤ length name + 6 * length value + 4
unfolding spelled_value
attribute_size name value =
    let a = flat_size value_character value_size value in
    let e = length-append name (61 ∷ 34 ∷ (flat_map value_character value ++ 34 ∷ [])) in
    let g = length-append (flat_map value_character value) (34 ∷ []) in
    omega (arith, a, e, g)

pub end_size : (name : List ℕ) → length (spelled_end name) ≤ length name + 3
end_size name = let e = length-append name (62 ∷ []) in omega (arith, e)

pub inside_size : (name text : List ℕ) → length (text_inside name text) ≤ length name + 6 * length text + 4
unfolding spelled_text
inside_size name [] = omega arith
inside_size name (c ∷ text) =
    let t = flat_map text_character (c ∷ text) in
    let a = flat_size text_character text_size (c ∷ text) in
    let e = length-append (t ++ []) (spelled_end name) in
    let g = ap (λ (l : List ℕ). length l) (append-nil t) in
    let h = end_size name in
    omega (arith, a, e, g, h)

pub optional_attribute_size : (name : List ℕ) (value : Option (List ℕ)) (n : ℕ) → AtMost n value → length (spelled_attributes (optional_attribute name value)) ≤ length name + 6 * n + 4
optional_attribute_size name None n h = omega arith
optional_attribute_size name (Some value) n h =
    let a = attribute_size name value in
    let g = ap (λ (l : List ℕ). length l) (append-nil (spelled_attribute name value)) in
    omega (arith, a, g, h)

pub leaf_size : (name : List ℕ) (attributes : List Attribute) (text : List ℕ)
    → length (spelled (leaf name attributes text)) ≤ 2 * length name + length (spelled_attributes attributes) + 6 * length text + 5
leaf_size name attributes text =
    let e = ap (λ (l : List ℕ). length l) (leaf_spelled name attributes text) in
    let a = length-append name (spelled_attributes attributes ++ text_inside name text) in
    let b = length-append (spelled_attributes attributes) (text_inside name text) in
    let i = inside_size name text in
    omega (arith, e, a, b, i)

-- ---- what is known of an element

pub named_true : (b : Bool) (x : Unit {0}) → require b ≡ Some x → b ≡ true
named_true true x e = refl
named_true false x e = absurd (none_some x e)

pub local_size : (name : List ℕ) → length (local_name name) ≤ length name
local_size name = go (behind_colon name) (behind name)
  where
    behind : (n : List ℕ) → IfSome (behind_colon n) (λ l. length l ≤ length n)
    behind [] = tt
    behind (c ∷ n) = step (nat_eq c 58) (behind_colon n) (behind n)
      where
        step : (b : Bool) (o : Option (List ℕ)) → IfSome o (λ l. length l ≤ length n) → IfSome (cond b (Some n) o) (λ l. length l ≤ length (c ∷ n))
        step true o h = omega arith
        step false None h = tt
        step false (Some l) h = omega (arith, h)

    go : (o : Option (List ℕ)) → IfSome o (λ l. length l ≤ length name) → length (unwrap_or o name) ≤ length name
    go None h = omega arith
    go (Some l) h = h

pub named_size : (local : List ℕ) (h : Head) (x : Unit {0}) → require (is_named local h) ≡ Some x → length local ≤ length h.name
named_size local h x e =
    let is = ap (λ (l : List ℕ). length l) (same_octets (local_name h.name) local (named_true (is_named local h) x e)) in
    let s = local_size h.name in
    omega (arith, is, s)

pub one_value : (list : List Attribute) (n : ℕ) (o : Option (List ℕ)) → values list ≤ n → items.at_most_one value_of list ≡ Some o → AtMost n o
unfolding items.at_most_one ◌>>=◌
one_value [] n o le e = subst (AtMost n) (same_some None o e) tt
one_value (a ∷ []) n o le e = subst (AtMost n) (same_some (Some a.value) o e) (omega (arith, le))
one_value (a ∷ b ∷ more) n o le e = absurd (none_some o e)

pub optional_size : (local : List ℕ) (h : Head) (o : Option (List ℕ)) → optional local h ≡ Some o → AtMost (values h.attributes) o
unfolding optional
optional_size local h o e = one_value (filter (is_called local) h.attributes) (values h.attributes) o (filter_values (is_called local) h.attributes) e

pub the_value : (list : List Attribute) (n : ℕ) (v : List ℕ) → values list ≤ n → items.the_one value_of list ≡ Some v → length v ≤ n
unfolding items.the_one
the_value [] n v le e = absurd (none_some v e)
the_value (a ∷ []) n v le e = subst (λ (l : List ℕ). length l ≤ n) (same_some a.value v e) (omega (arith, le))
the_value (a ∷ b ∷ more) n v le e = absurd (none_some v e)

pub required_size : (local : List ℕ) (h : Head) (v : List ℕ) → required local h ≡ Some v → length v ≤ values h.attributes
unfolding required
required_size local h v e = the_value (filter (is_called local) h.attributes) (values h.attributes) v (filter_values (is_called local) h.attributes) e

pub uri_same : (kind : Kind) (text u : List ℕ) → uri_of_text kind text ≡ Some u → text ≡ u
unfolding uri_of_text
uri_same kind text u e = (lawful_text text (fault_of kind text) u e).1

pub uri_there : (kind : Kind) (n : ℕ) (text u : Option (List ℕ)) → AtMost n text → where_there (uri_of_text kind) text ≡ Some u → AtMost n u
uri_there kind n None u h e = subst (AtMost n) (same_some None u e) tt
uri_there kind n (Some text) u h e =
    let p = then_some (uri_of_text kind text) (λ x. Some (Some x)) u e in
    subst (AtMost n) (same_some (Some p.0) u p.2) (subst (λ (l : List ℕ). length l ≤ n) (uri_same kind text p.0 p.1) h)

pub uri_size : (kind : Kind) (local : List ℕ) (h : Head) (u : Option (List ℕ)) → optional_by (uri_of_text kind) local h ≡ Some u → AtMost (values h.attributes) u
unfolding optional_by
uri_size kind local h u e =
    let p = then_some (optional local h) (where_there (uri_of_text kind)) u e in
    uri_there kind (values h.attributes) p.0 u (optional_size local h p.0 p.1) p.2

pub there_size : (n : ℕ) (o : Option (List ℕ)) (v : List ℕ) → o ≡ Some v → AtMost n o → length v ≤ n
there_size n o v e h = there (λ (l : List ℕ). length l ≤ n) o v e h

pub filtered : {X : Type 0} (f : X → Bool) (list : List X) → length (filter f list) ≤ length list
filtered f list = let e = length-filter f list in let c = count_by-le-length f list in omega (arith, e, c)

pub content_size : (text content : List ℕ) → AreOctets text → base64_content text ≡ Some content → length (encode_of standard content) ≤ length text
content_size text content l e =
    let s = ap (λ (t : List ℕ). length t) (content_spelled text content l e) in
    let f = filtered is_not_space text in
    omega (arith, s, f)

-- ---- elements

-- what an element weighs with all that is below it
abbrev pub whole : Element → ℕ
whole e = weight e.head + size e.children

-- what the children are, each no greater than all of them
pub record IsPart (n : ℕ) (e : Element) : Type 0 where
  pub head : IsLetteredHead e.head
  pub below : AreLettered e.children
  pub fits : whole e ≤ n

pub parts : (es : Elements) (n : ℕ) → AreLettered es → size es ≤ n → AllByRecursion (IsPart n) (listed es)
parts none n l h = tt
parts (first head children rest) n l h = (record { head = l.0; below = l.1.0; fits = omega (arith, h) }, parts rest n l.1.1 (omega (arith, h)))

pub some_parts : (n : ℕ) (f : Element → Bool) (list : List Element) → AllByRecursion (IsPart n) list → AllByRecursion (IsPart n) (filter f list)
some_parts n f list l = some_holds (IsPart n) f list l

pub last_part : {X : Type 0} (n : ℕ) (f : Element → Option (Option X)) (P : X → Type 0) → ((e : Element) (x : Option X) → IsPart n e → f e ≡ Some x → IfSome x P)
    → (list : List Element) (before found : Option X) → AllByRecursion (IsPart n) list → IfSome before P → items.the_last before f list ≡ Some found → IfSome found P
last_part n f P h list before found l b is = last_holds (IsPart n) P f h list before found l b is

pub found_part : (n : ℕ) (children : Elements) (found : Option Element) → AreLettered children → size children ≤ n → at_most_one_child children ≡ Some found → IfSome found (IsPart n)
found_part n children found l h is = found_holds (IsPart n) children found (parts children n l h) is

pub each_size : {X : Type 0} (f : Element → Option X) (g : X → Element) → ((e : Element) (x : X) → IsLawful e → f e ≡ Some x → length (spelled (g x)) ≤ 40 * whole e)
    → (es : Elements) (xs : List X) → AreLettered es → AreTrimmed es → each_of f es ≡ Some xs → length (spelled_all (elements_of g xs)) ≤ 40 * size es
unfolding each_of
each_size {X} f g h none xs l t is = subst (λ (list : List X). length (spelled_all (elements_of g list)) ≤ 0) (same_some [] xs is) (omega arith)
each_size {X} f g h (first head children rest) xs l t is =
    let e : Element = record { head = head; children = children } in
    let p = then_some (f e) _ xs is in
    let q = then_some (each_of f rest) _ xs p.2 in
    let one = h e p.0 (record { head = l.0; trimmed' = t.0; below = l.1.0; trims = t.1.0 }) p.1 in
    let more = each_size f g h rest q.0 l.1.1 t.1.1 q.1 in
    subst (λ (list : List X). length (spelled_all (elements_of g list)) ≤ 40 * size (first head children rest)) (same_some (p.0 ∷ q.0) xs q.2)
    (joined (g p.0) (elements_of g q.0) (40 * whole e) (40 * size rest) (40 * size (first head children rest)) one more (omega arith))
  where
    joined : (x : Element) (xs : Elements) (a b c : ℕ) → length (spelled x) ≤ a → length (spelled_all xs) ≤ b → a + b ≤ c → length (spelled_all (first x.head x.children xs)) ≤ c
    joined x xs a b c h k le =
        let alone' = ap (λ (l : List ℕ). length l) (append-nil (whole_text x)) in
        let e = length-append (whole_text x) (spelled_all xs) in
        omega (arith, h, k, le, alone', e)
