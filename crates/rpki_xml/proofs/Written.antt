-- An element that is written is the element of the document that is written.
use Rattle.std.proofs.Common.{◌≡◌, ℕ, Bool, ◌&&◌, ◌||◌, not, true, false, List, [], ◌∷◌, ◌++◌, Option, Some, None, refl, sym, ap, subst, ◌∙◌, append_assoc}
use Rattle.std.proofs.lemmas.List.{append-nil}
use Rattle.std.proofs.lemmas.Slice.Eq.{bytes_eq-Decides}
use Rattle.std.specs.List.{list_all, flat_map, AllByRecursion}
use Rattle.std.specs.Str.{bytes_eq}
use Rattle.std.specs.Prelude.{codes, IfSome}
use Rattle.rpki_common.proofs.Truths.{both}
use Rattle.rpki_xml.specs.Element.{Attribute, Head, Elements, none, first, Element, alone, is_none, is_nil}
use Rattle.rpki_xml.specs.Content.{Tag, Piece, run, end, Content, pieces, characters, elements_in, text_of_content, head_of_tag, fits, is_distinct, is_declaration, handed_on, namespace_of, declares, declared, trimmed, is_white, IsLawful}
use Rattle.rpki_xml.specs.Lexing.{piece_at, Repeats, is_octet, IsDocument}
use Rattle.rpki_xml.specs.Spelling.{text_character, spelled_text, spelled_attributes, spelled_namespace, spelled_start, spelled_inside, spelled_end, spelled_all, spelled}
use Rattle.rpki_xml.specs.PlainElement.{IsPlainAttribute, IsPlainHead, ArePlain}
use Rattle.rpki_xml.proofs.Contents.{declaration, tag_of, text_content, element_content, content_of}
use Rattle.rpki_xml.proofs.Spelled.{run_again, leaf_again, start_again, end_again, ArePlainAttributes}

-- ---- the pieces that the spelling is read as

then_reads : (b : List ℕ) (front : List Piece) (mid : List ℕ) (back : List Piece) (rest : List ℕ) → Repeats piece_at b front mid → Repeats piece_at mid back rest → Repeats piece_at b (front ++ back) rest
then_reads b [] mid back rest h k = subst (λ (l : List ℕ). Repeats piece_at l back rest) (sym h) k
then_reads b (p ∷ front) mid back rest h k = (h.0, h.1, then_reads h.0 front mid back rest h.2 k)

-- what stands behind a text begins with `<`, since an element's start or its end does
behind_text : (es : Elements) (name rest : List ℕ) → (more : List ℕ) × (spelled_all es ++ (spelled_end name ++ rest) ≡ 60 ∷ more)
behind_text none name rest = (_, refl)
behind_text (first h cs others) name rest = (_, refl)

text_pieces : (text : List ℕ) (inside : Content) (y more rest : List ℕ) → y ≡ 60 ∷ more → Repeats piece_at y (pieces inside) rest → Repeats piece_at (flat_map text_character text ++ y) (pieces (text_content text inside)) rest
text_pieces [] inside y more rest at h = h
text_pieces (c ∷ text) inside y more rest at h = (y, subst (λ (l : List ℕ). piece_at (flat_map text_character (c ∷ text) ++ l) ≡ Some (run (c ∷ text), l)) (sym at) (run_again c text more), h)

with_declaration : (uri : Option (List ℕ)) (list : List Attribute) → spelled_namespace uri ++ spelled_attributes list ≡ spelled_attributes (declaration uri ++ list)
with_declaration None list = refl
with_declaration (Some u) list = refl

plain_names : (list : List Attribute) → AllByRecursion IsPlainAttribute list → ArePlainAttributes list
plain_names [] h = tt
plain_names (a ∷ list) h = (h.0.name, plain_names list h.1)

plain_tag : (uri : Option (List ℕ)) (list : List Attribute) → AllByRecursion IsPlainAttribute list → ArePlainAttributes (declaration uri ++ list)
plain_tag None list h = plain_names list h
plain_tag (Some u) list h = (record { lawful = refl; octets = refl; plain = refl }, plain_names list h)

start_is : (h : Head) (y : List ℕ) → spelled_start h ++ y ≡ 60 ∷ (h.name ++ (spelled_attributes (tag_of h).attributes ++ y))
start_is h y =
    ap (λ (l : List ℕ). 60 ∷ l) (append_assoc h.name (spelled_namespace h.namespace ++ spelled_attributes h.attributes) y)
    ∙ ap (λ (l : List ℕ). 60 ∷ (h.name ++ (l ++ y))) (with_declaration h.namespace h.attributes)

leaf_regroup : (s r y : List ℕ) → ((s ++ 47 ∷ 62 ∷ []) ++ r) ++ y ≡ s ++ 47 ∷ 62 ∷ (r ++ y)
leaf_regroup s r y = simp append_assoc

element_regroup : (s t c e r y : List ℕ) → ((s ++ 62 ∷ ((t ++ c) ++ e)) ++ r) ++ y ≡ s ++ 62 ∷ (t ++ (c ++ (e ++ (r ++ y))))
element_regroup s t c e r y = simp append_assoc

pub pieces_read : (es : Elements) (y : List ℕ) → ArePlain es → Repeats piece_at (spelled_all es ++ y) (pieces (content_of es)) y
unfolding spelled_text
pieces_read none y h = refl
pieces_read (first h cs rest) y p =
    go (is_nil h.text && is_none cs) refl (pieces_read cs (spelled_end h.name ++ (spelled_all rest ++ y)) p.1.1.0) (pieces_read rest y p.1.1.1)
  where
    plain : ArePlainAttributes (tag_of h).attributes
    plain = plain_tag h.namespace h.attributes p.0.attributes

    inner : List ℕ
    inner = flat_map text_character h.text ++ (spelled_all cs ++ (spelled_end h.name ++ (spelled_all rest ++ y)))

    go : (b : Bool) → is_nil h.text && is_none cs ≡ b → Repeats piece_at (spelled_all cs ++ (spelled_end h.name ++ (spelled_all rest ++ y))) (pieces (content_of cs)) (spelled_end h.name ++ (spelled_all rest ++ y)) → Repeats piece_at (spelled_all rest ++ y) (pieces (content_of rest)) y
        → Repeats piece_at (((spelled_start h ++ spelled_inside b h.name (flat_map text_character h.text ++ spelled_all cs)) ++ spelled_all rest) ++ y) (pieces (element_content b (tag_of h) (text_content h.text (content_of cs)) (content_of rest))) y
    go true e children others = (
      spelled_all rest ++ y,
      ap piece_at (leaf_regroup (spelled_start h) (spelled_all rest) y ∙ start_is h (47 ∷ 62 ∷ (spelled_all rest ++ y))) ∙ leaf_again h.name (tag_of h).attributes (spelled_all rest ++ y) p.0.name plain,
      others,
    )
    go false e children others = (
      inner,
      ap piece_at (element_regroup (spelled_start h) (flat_map text_character h.text) (spelled_all cs) (spelled_end h.name) (spelled_all rest) y ∙ start_is h (62 ∷ inner)) ∙ start_again h.name (tag_of h).attributes inner p.0.name plain,
      then_reads inner (pieces (text_content h.text (content_of cs))) (spelled_end h.name ++ (spelled_all rest ++ y)) (end h.name ∷ pieces (content_of rest)) y
          (text_pieces h.text (content_of cs) (spelled_all cs ++ (spelled_end h.name ++ (spelled_all rest ++ y))) (behind_text cs h.name (spelled_all rest ++ y)).0 (spelled_end h.name ++ (spelled_all rest ++ y)) (behind_text cs h.name (spelled_all rest ++ y)).1 children)
          (spelled_all rest ++ y, end_again h.name (spelled_all rest ++ y) p.0.name, others),
    )

-- ---- the element that it is

neither : (a b : Bool) → (a || b) ≡ false → (a ≡ false) × (b ≡ false)
neither true b e = absurd cc
neither false b e = (refl, e)

true_false : true ≡ false → ⊥
true_false e = cc

other_way : (xs ys : List ℕ) → bytes_eq ys xs ≡ false → bytes_eq xs ys ≡ false
other_way xs ys h = go (bytes_eq xs ys) refl
  where
    go : (b : Bool) → bytes_eq xs ys ≡ b → bytes_eq xs ys ≡ false
    go false e = e
    go true e = let same : bytes_eq ys xs ≡ true = (bytes_eq-Decides ys xs).1 (sym ((bytes_eq-Decides xs ys).0 e)) in absurd (true_false (sym same ∙ h))

none_declared : (list : List Attribute) → AllByRecursion IsPlainAttribute list → declared None list ≡ None
unfolding declares is_declaration
none_declared [] h = refl
none_declared (a ∷ list) h =
    let no_xmlns = (neither (bytes_eq a.name (codes "xmlns")) _ h.0.handed_on).0 in
    rw no_xmlns (none_declared list h.1)

all_handed_on : (list : List Attribute) → AllByRecursion IsPlainAttribute list → handed_on list ≡ list
all_handed_on [] h = refl
all_handed_on (a ∷ list) h = rw h.0.handed_on (ap (λ (l : List Attribute). a ∷ l) (all_handed_on list h.1))

namespace_again : (h : Head) → IsPlainHead h → namespace_of (tag_of h) ≡ h.namespace
unfolding namespace_of declares
namespace_again h p = go h.namespace p.namespace
  where
    go : (uri : Option (List ℕ)) → IfSome uri (λ u. (is_nil u ≡ false) × (list_all is_octet u ≡ true)) → namespace_of (record { name = h.name; attributes = declaration uri ++ h.attributes }) ≡ uri
    go None q = rw (p.name.plain, none_declared h.attributes p.attributes) refl
    go (Some []) q = absurd (true_false q.0)
    go (Some (c ∷ u)) q = rw p.name.plain refl

handed_on_again : (h : Head) → IsPlainHead h → handed_on (tag_of h).attributes ≡ h.attributes
unfolding is_declaration
handed_on_again h p = go h.namespace
  where
    go : (uri : Option (List ℕ)) → handed_on (declaration uri ++ h.attributes) ≡ h.attributes
    go None = all_handed_on h.attributes p.attributes
    go (Some u) = all_handed_on h.attributes p.attributes

differs : (list : List Attribute) → AllByRecursion IsPlainAttribute list → list_all (λ b. not (bytes_eq (codes "xmlns") b.name)) list ≡ true
unfolding is_declaration
differs [] h = refl
differs (a ∷ list) h =
    let no_xmlns = other_way (codes "xmlns") a.name (neither (bytes_eq a.name (codes "xmlns")) _ h.0.handed_on).0 in
    rw (no_xmlns, differs list h.1) refl

distinct_again : (h : Head) → IsPlainHead h → is_distinct (tag_of h).attributes ≡ true
distinct_again h p = go h.namespace
  where
    go : (uri : Option (List ℕ)) → is_distinct (declaration uri ++ h.attributes) ≡ true
    go None = p.distinct
    go (Some u) = rw (differs h.attributes p.attributes, p.distinct) refl

abbrev head_with : List ℕ → Option (List ℕ) → List Attribute → List ℕ → Head
head_with name namespace attributes text = record { name = name; namespace = namespace; attributes = attributes; text = text }

head_again : (h : Head) (text : List ℕ) → IsPlainHead h → text ≡ h.text → head_of_tag (tag_of h) text ≡ h
head_again h text p e =
    ap (λ (n : Option (List ℕ)). head_with h.name n (handed_on (tag_of h).attributes) text) (namespace_again h p)
    ∙ ap (λ (l : List Attribute). head_with h.name h.namespace l text) (handed_on_again h p)
    ∙ ap (head_with h.name h.namespace h.attributes) e

chosen_characters : (b : Bool) (tag : Tag) (inside more : Content) → characters (element_content b tag inside more) ≡ characters more
chosen_characters true tag inside more = refl
chosen_characters false tag inside more = refl

no_characters : (es : Elements) → characters (content_of es) ≡ []
no_characters none = refl
no_characters (first h cs rest) = chosen_characters (is_nil h.text && is_none cs) (tag_of h) (text_content h.text (content_of cs)) (content_of rest) ∙ no_characters rest

text_characters : (text : List ℕ) (more : Content) → characters (text_content text more) ≡ text ++ characters more
text_characters [] more = refl
text_characters (c ∷ text) more = refl

text_elements : (text : List ℕ) (more : Content) → elements_in (text_content text more) ≡ elements_in more
text_elements [] more = refl
text_elements (c ∷ text) more = refl

text_lawful : (text : List ℕ) (more : Content) → IsLawful more → IsLawful (text_content text more)
text_lawful [] more h = h
text_lawful (c ∷ text) more h = h

inside_characters : (text : List ℕ) (cs : Elements) → characters (text_content text (content_of cs)) ≡ text
inside_characters text cs = text_characters text (content_of cs) ∙ ap (λ (l : List ℕ). text ++ l) (no_characters cs) ∙ append-nil text

text_stays : (cs : Elements) (text : List ℕ) → trimmed text ≡ text → (is_none cs ≡ false → text ≡ []) → text_of_content cs text ≡ text
text_stays none text t e = t
text_stays (first h cs rest) text t e = sym (e refl)

fits_there : (cs : Elements) (text : List ℕ) → (is_none cs ≡ false → text ≡ []) → fits cs text ≡ true
fits_there none text e = refl
fits_there (first h cs rest) text e = ap (list_all is_white) (e refl)

nil_is : (text : List ℕ) → is_nil text ≡ true → [] ≡ text
nil_is [] e = refl
nil_is (c ∷ text) e = absurd cc

none_is : (cs : Elements) → is_none cs ≡ true → none ≡ cs
none_is none e = refl
none_is (first h cs rest) e = absurd cc

pub elements_again : (es : Elements) → ArePlain es → elements_in (content_of es) ≡ es
elements_again none p = refl
elements_again (first h cs rest) p = go (is_nil h.text && is_none cs) refl (elements_again cs p.1.1.0) (elements_again rest p.1.1.1)
  where
    go : (b : Bool) → is_nil h.text && is_none cs ≡ b → elements_in (content_of cs) ≡ cs → elements_in (content_of rest) ≡ rest
        → elements_in (element_content b (tag_of h) (text_content h.text (content_of cs)) (content_of rest)) ≡ first h cs rest
    go true e children others =
        let q = both (is_nil h.text) (is_none cs) e in
        ap (λ (x : Head). first x none (elements_in (content_of rest))) (head_again h [] p.0 (nil_is h.text q.0)) ∙ ap (λ (x : Elements). first h x (elements_in (content_of rest))) (none_is cs q.1) ∙ ap (first h cs) others
    go false e children others =
        let inside = text_content h.text (content_of cs) in
        let es : elements_in inside ≡ cs = text_elements h.text (content_of cs) ∙ children in
        let text : text_of_content (elements_in inside) (characters inside) ≡ h.text = ap (λ (x : Elements). text_of_content x (characters inside)) es ∙ ap (text_of_content cs) (inside_characters h.text cs) ∙ text_stays cs h.text p.0.trimmed p.1.0 in
        ap (λ (x : Head). first x (elements_in inside) (elements_in (content_of rest))) (head_again h (text_of_content (elements_in inside) (characters inside)) p.0 text)
        ∙ ap (λ (x : Elements). first h x (elements_in (content_of rest))) es ∙ ap (first h cs) others

pub content_lawful : (es : Elements) → ArePlain es → IsLawful (content_of es)
content_lawful none p = tt
content_lawful (first h cs rest) p = go (is_nil h.text && is_none cs) (content_lawful cs p.1.1.0) (content_lawful rest p.1.1.1)
  where
    go : (b : Bool) → IsLawful (content_of cs) → IsLawful (content_of rest) → IsLawful (element_content b (tag_of h) (text_content h.text (content_of cs)) (content_of rest))
    go true children others = (distinct_again h p.0, others)
    go false children others =
        let inside = text_content h.text (content_of cs) in (
          distinct_again h p.0,
          (
            text_lawful h.text (content_of cs) children,
            (
              ap (λ (x : Elements). fits x (characters inside)) (text_elements h.text (content_of cs) ∙ elements_again cs p.1.1.0) ∙ ap (fits cs) (inside_characters h.text cs) ∙ fits_there cs h.text p.1.0,
              others,
            ),
          ),
        )

-- what is written is a document, whose element is the one that was written
pub is_document : (e : Element) → ArePlain (alone e) → list_all is_octet (spelled e) ≡ true → IsDocument (spelled e) e
is_document e p octets = record {
  octets = octets;
  list = pieces (content_of (alone e));
  pieces = subst (λ (l : List ℕ). Repeats piece_at l (pieces (content_of (alone e))) []) (append-nil (spelled e)) (pieces_read (alone e) [] p);
  element = record {
    content = content_of (alone e);
    spelled = refl;
    lawful = content_lawful (alone e) p;
    only = elements_again (alone e) p;
    white = ap (list_all is_white) (no_characters (alone e));
  };
}
