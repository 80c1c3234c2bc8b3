-- The element of a document consists of octets that a document may have.
use Rattle.std.proofs.Common.{◌≡◌, ℕ, zero, suc, ◌<◌, Bool, ◌||◌, not, true, false, cond, eqb, List, [], ◌∷◌, ◌++◌, length, reverse, Option, Some, None, IfSome, refl, sym, subst, ◌∙◌, arith}
use Rattle.std.proofs.lemmas.List.{reverse-append}
use Rattle.std.proofs.lemmas.List.Folds.{list_all-append}
use Rattle.std.proofs.lemmas.Bool.Decides.{nat_tests}
use Rattle.std.proofs.lemmas.Str.{IsUtf8-from_ascii}
use Rattle.std.specs.Prelude.{codes, unwrap_or}
use Rattle.std.specs.Str.{IsUtf8, IsAscii}
use Rattle.std.specs.List.{list_all, AllByRecursion}
use Rattle.rpki_common.specs.Chaining.{◌>>=◌}
use Rattle.rpki_common.proofs.Truths.{both}
use Rattle.rpki_xml.specs.Element.{Attribute, Elements, none, first, Element, alone}
use Rattle.rpki_xml.specs.Content.{Tag, Piece, run, passed_over, leaf, start, end, Content, nothing, and_run, and_passed_over, and_leaf, and_element, pieces, behind, is_declaration, declares, declared, not_empty, namespace_of, handed_on, is_white, without_white, trimmed, characters, text_of_content, head_of_tag, elements_in}
use Rattle.rpki_xml.specs.Lettered.{AreOctets, IsLetteredAttribute, IsLetteredHead, AreLettered}
use Rattle.rpki_xml.specs.Lexing.{front_of, back_of, or_else, entity_at, any_entity_at, character_at, name_at, past_white, end_at, repeated, until, ends_at, value_in, quoted_at, attribute_at, no_attribute, closed_at, tag_at, past_next, passed_at, behind_front, run_at, markup_at, piece_at, Repeats, is_octet, IsDocument}
use Rattle.rpki_xml.specs.Name.{is_name, is_name_octet, behind_colon, prefix_of, local_name}

-- ---- text

either : {X : Type 0} (P : X → Type 0) (b : Bool) (x y : X) → P x → P y → P (cond b x y)
either P true x y h k = h
either P false x y h k = k

abbrev IsOctet : ℕ → Type 0
IsOctet c = is_octet c ≡ true

first_octet : (c : ℕ) (text : List ℕ) → AreOctets (c ∷ text) → IsOctet c
first_octet c text h = (both (is_octet c) (list_all is_octet text) h).0

other_octets : (c : ℕ) (text : List ℕ) → AreOctets (c ∷ text) → AreOctets text
other_octets c text h = (both (is_octet c) (list_all is_octet text) h).1

both_octets : (c : ℕ) (text : List ℕ) → IsOctet c → AreOctets text → AreOctets (c ∷ text)
both_octets c text h k = rw (h, k) refl

octet_below : (c : ℕ) → IsOctet c → c < 128
octet_below c h = grind (arith, nat_tests)

slice_below : (text : List ℕ) → AreOctets text → IsAscii text
slice_below [] h i = omega arith
slice_below (c ∷ text) h zero = octet_below c (first_octet c text h)
slice_below (c ∷ text) h (suc i) = slice_below text (other_octets c text h) i

pub utf8 : (text : List ℕ) → AreOctets text → IsUtf8 text
utf8 text h = IsUtf8-from_ascii text (slice_below text h)

front_octets : (passes : ℕ → Bool) (b : List ℕ) → AreOctets b → AreOctets (front_of passes b)
front_octets passes [] h = refl
front_octets passes (c ∷ b) h = either AreOctets (passes c) (c ∷ front_of passes b) [] (both_octets c (front_of passes b) (first_octet c b h) (front_octets passes b (other_octets c b h))) refl

back_octets : (passes : ℕ → Bool) (b : List ℕ) → AreOctets b → AreOctets (back_of passes b)
back_octets passes [] h = refl
back_octets passes (c ∷ b) h = either AreOctets (passes c) (back_of passes b) (c ∷ b) (back_octets passes b (other_octets c b h)) h

pub behind_colon_octets : (name : List ℕ) → AreOctets name → IfSome (behind_colon name) AreOctets
behind_colon_octets [] h = tt
behind_colon_octets (c ∷ name) h = either (λ o. IfSome o AreOctets) (eqb c 58) (Some name) (behind_colon name) (other_octets c name h) (behind_colon_octets name (other_octets c name h))

-- the local part of a name has such octets too
pub local_octets : (name : List ℕ) → AreOctets name → AreOctets (local_name name)
local_octets name h = go (behind_colon name) (behind_colon_octets name h)
  where
    go : (o : Option (List ℕ)) → IfSome o AreOctets → AreOctets (unwrap_or o name)
    go None k = h
    go (Some text) k = k

-- ---- what stands at the front of octets

-- what follows, where there is something, has such octets
abbrev Rests : Option (List ℕ) → Type 0
Rests None = Unit {0}
Rests (Some b) = AreOctets b

-- what is there and what follows, where it is there
abbrev Finds : {X : Type 0} → (X → Type 0) → Option (X × List ℕ) → Type 0
Finds P None = Unit {0}
Finds P (Some x) = P x.0 × AreOctets x.1

then_rests : {Y : Type 0} (P : Y → Type 0) (o : Option (List ℕ)) (f : List ℕ → Option (Y × List ℕ)) → Rests o → ((b : List ℕ) → AreOctets b → Finds P (f b)) → Finds P (o >>= f)
unfolding ◌>>=◌
then_rests P None f h k = tt
then_rests P (Some b) f h k = k b h

then_finds : {X Y : Type 0} (Q : X → Type 0) (P : Y → Type 0) (o : Option (X × List ℕ)) (f : X × List ℕ → Option (Y × List ℕ)) → Finds Q o → ((x : X) (b : List ℕ) → Q x → AreOctets b → Finds P (f (x, b))) → Finds P (o >>= f)
unfolding ◌>>=◌
then_finds Q P None f h k = tt
then_finds Q P (Some x) f h k = k x.0 x.1 h.0 h.1

or_finds : {X : Type 0} (P : X → Type 0) (a b : Option (X × List ℕ)) → Finds P a → Finds P b → Finds P (or_else a b)
or_finds P None b h k = k
or_finds P (Some x) b h k = h

behind_rests : (front b : List ℕ) → AreOctets b → Rests (behind front b)
behind_rests [] b h = h
behind_rests (c ∷ front) [] h = tt
behind_rests (c ∷ front) (d ∷ b) h = either Rests (eqb d c) (behind front b) None (behind_rests front b (other_octets d b h)) tt

entity_finds : (name : List ℕ) (c : ℕ) (b : List ℕ) → IsOctet c → AreOctets b → Finds IsOctet (entity_at name c b)
entity_finds name c b o h = then_rests IsOctet (behind name b) (λ rest. Some (c, rest)) (behind_rests name b h) (λ rest k. (o, k))

any_entity_finds : (b : List ℕ) → AreOctets b → Finds IsOctet (any_entity_at b)
unfolding any_entity_at
any_entity_finds b h =
    let amp = entity_finds (codes "amp;") 38 b refl h in
    let lt = entity_finds (codes "lt;") 60 b refl h in
    let gt = entity_finds (codes "gt;") 62 b refl h in
    let quot = entity_finds (codes "quot;") 34 b refl h in
    let apos = entity_finds (codes "apos;") 39 b refl h in
    or_finds IsOctet (entity_at (codes "amp;") 38 b) _ amp (or_finds IsOctet (entity_at (codes "lt;") 60 b) _ lt (or_finds IsOctet (entity_at (codes "gt;") 62 b) _ gt (or_finds IsOctet (entity_at (codes "quot;") 34 b) _ quot apos)))

character_finds : (b : List ℕ) → AreOctets b → Finds IsOctet (character_at b)
unfolding character_at
character_finds [] h = tt
character_finds (c ∷ b) h = go (eqb c 38) (eqb c 60)
  where
    go : (x y : Bool) → Finds IsOctet (cond x (any_entity_at b) (cond y None (Some (c, b))))
    go true y = any_entity_finds b (other_octets c b h)
    go false true = tt
    go false false = (first_octet c b h, other_octets c b h)

repeated_finds : {X : Type 0} (P : X → Type 0) (stops : List ℕ → Bool) (at : List ℕ → Option (X × List ℕ)) → ((b : List ℕ) → AreOctets b → Finds P (at b)) → (n : ℕ) (b : List ℕ) → AreOctets b → Finds (AllByRecursion P) (repeated stops at n b)
repeated_finds P stops at each zero b h = tt
repeated_finds {X} P stops at each (suc n) b h =
    either (Finds (AllByRecursion P)) (stops b) (Some ([], b)) (at b >>= λ (y : X × List ℕ). repeated stops at n y.1 >>= λ more. Some (y.0 ∷ more.0, more.1)) (tt, h)
    (then_finds P (AllByRecursion P) (at b) (λ y. repeated stops at n y.1 >>= λ more. Some (y.0 ∷ more.0, more.1)) (each b h)
    (λ y c p k. then_finds (AllByRecursion P) (AllByRecursion P) (repeated stops at n c) (λ more. Some (y ∷ more.0, more.1)) (repeated_finds P stops at each n c k) (λ ys d ps l. ((p, ps), l))))

until_finds : {X : Type 0} (P : X → Type 0) (stops : List ℕ → Bool) (at : List ℕ → Option (X × List ℕ)) → ((b : List ℕ) → AreOctets b → Finds P (at b)) → (b : List ℕ) → AreOctets b → Finds (AllByRecursion P) (until stops at b)
unfolding until
until_finds P stops at each b h = repeated_finds P stops at each (suc (length b)) b h

octets_of : (text : List ℕ) → AllByRecursion IsOctet text → AreOctets text
octets_of [] h = refl
octets_of (c ∷ text) h = both_octets c text h.0 (octets_of text h.1)

-- ---- attributes and starts

abbrev IsLetteredTag : Tag → Type 0
IsLetteredTag tag = AreOctets tag.name × AllByRecursion IsLetteredAttribute tag.attributes

name_finds : (b : List ℕ) → AreOctets b → Finds AreOctets (name_at b)
unfolding name_at
name_finds b h = go (is_name (front_of is_name_octet b))
  where
    go : (x : Bool) → Finds AreOctets (cond x (Some (front_of is_name_octet b, back_of is_name_octet b)) None)
    go true = (front_octets is_name_octet b h, back_octets is_name_octet b h)
    go false = tt

value_finds : (quote : ℕ) (b : List ℕ) → AreOctets b → Finds AreOctets (value_in quote b)
unfolding value_in
value_finds quote b h = then_finds (AllByRecursion IsOctet) AreOctets (until (ends_at false quote) character_at b) _ (until_finds IsOctet (ends_at false quote) character_at character_finds b h)
    (λ v c p k. then_rests AreOctets (behind (quote ∷ []) c) (λ rest. Some (v, rest)) (behind_rests (quote ∷ []) c k) (λ rest l. (octets_of v p, l)))

quoted_finds : (b : List ℕ) → AreOctets b → Finds AreOctets (quoted_at b)
unfolding quoted_at
quoted_finds [] h = tt
quoted_finds (c ∷ b) h = go (eqb c 34 || eqb c 39)
  where
    go : (x : Bool) → Finds AreOctets (cond x (value_in c b) None)
    go true = value_finds c b (other_octets c b h)
    go false = tt

attribute_finds : (b : List ℕ) → AreOctets b → Finds IsLetteredAttribute (attribute_at b)
unfolding attribute_at
attribute_finds b h = then_finds AreOctets IsLetteredAttribute (name_at (past_white b)) _ (name_finds (past_white b) (back_octets is_white b h))
    (λ n c p k. then_rests IsLetteredAttribute (behind (codes "=") (past_white c)) _ (behind_rests (codes "=") (past_white c) (back_octets is_white c k))
    (λ d l. then_finds AreOctets IsLetteredAttribute (quoted_at (past_white d)) (λ value. Some (record { name = n; value = value.0 }, value.1)) (quoted_finds (past_white d) (back_octets is_white d l))
    (λ v e q m. (record { name = p; value = q }, m))))

abbrev IsLetteredPiece : Piece → Type 0
IsLetteredPiece (run text) = AreOctets text
IsLetteredPiece passed_over = Unit {0}
IsLetteredPiece (leaf tag) = IsLetteredTag tag
IsLetteredPiece (start tag) = IsLetteredTag tag
IsLetteredPiece (end name) = Unit {0}

closed_finds : (tag : Tag) (b : List ℕ) → IsLetteredTag tag → AreOctets b → Finds IsLetteredPiece (closed_at tag b)
closed_finds tag b t h = or_finds IsLetteredPiece (behind (codes "/>") b >>= λ rest. Some (leaf tag, rest)) _
    (then_rests IsLetteredPiece (behind (codes "/>") b) (λ rest. Some (leaf tag, rest)) (behind_rests (codes "/>") b h) (λ rest k. (t, k)))
    (then_rests IsLetteredPiece (behind (codes ">") b) (λ rest. Some (start tag, rest)) (behind_rests (codes ">") b h) (λ rest k. (t, k)))

tag_finds : (b : List ℕ) → AreOctets b → Finds IsLetteredPiece (tag_at b)
unfolding tag_at
tag_finds b h = then_finds AreOctets IsLetteredPiece (name_at b) _ (name_finds b h)
    (λ n c p k. then_finds (AllByRecursion IsLetteredAttribute) IsLetteredPiece (until no_attribute attribute_at c) (λ attributes. closed_at (record { name = n; attributes = attributes.0 }) (past_white attributes.1)) (until_finds IsLetteredAttribute no_attribute attribute_at attribute_finds c k)
    (λ list d q l. closed_finds (record { name = n; attributes = list }) (past_white d) (p, q) (back_octets is_white d l)))

-- ---- pieces

end_finds : (b : List ℕ) → AreOctets b → Finds IsLetteredPiece (end_at b)
unfolding end_at
end_finds b h = then_finds AreOctets IsLetteredPiece (name_at b) _ (name_finds b h)
    (λ n c p k. then_rests IsLetteredPiece (behind (codes ">") (past_white c)) (λ rest. Some (end n, rest)) (behind_rests (codes ">") (past_white c) (back_octets is_white c k)) (λ rest l. (tt, l)))

or_rests : (a b : Option (List ℕ)) → Rests a → Rests b → Rests (or_else a b)
or_rests None b h k = k
or_rests (Some x) b h k = h

past_next_rests : (close b : List ℕ) → AreOctets b → Rests (past_next close b)
past_next_rests close [] h = tt
past_next_rests close (c ∷ b) h = or_rests (behind close (c ∷ b)) (past_next close b) (behind_rests close (c ∷ b) h) (past_next_rests close b (other_octets c b h))

passed_finds : (close b : List ℕ) → AreOctets b → Finds IsLetteredPiece (passed_at close b)
unfolding passed_at
passed_finds close b h = then_rests IsLetteredPiece (past_next close b) (λ rest. Some (passed_over, rest)) (past_next_rests close b h) (λ rest k. (tt, k))

front_finds : {X : Type 0} (P : X → Type 0) (o : Option (List ℕ)) (at : List ℕ → Option (X × List ℕ)) (other : Option (X × List ℕ)) → Rests o → ((b : List ℕ) → AreOctets b → Finds P (at b)) → Finds P other → Finds P (behind_front o at other)
front_finds P None at other h k l = l
front_finds P (Some b) at other h k l = k b h

markup_finds : (b : List ℕ) → AreOctets b → Finds IsLetteredPiece (markup_at b)
unfolding markup_at
markup_finds b h = front_finds IsLetteredPiece (behind (codes "/") b) end_at _ (behind_rests (codes "/") b h) end_finds
    (front_finds IsLetteredPiece (behind (codes "!--") b) (passed_at (codes "-->")) _ (behind_rests (codes "!--") b h) (passed_finds (codes "-->"))
    (front_finds IsLetteredPiece (behind (codes "?") b) (passed_at (codes "?>")) _ (behind_rests (codes "?") b h) (passed_finds (codes "?>")) (tag_finds b h)))

run_finds : (b : List ℕ) → AreOctets b → Finds IsLetteredPiece (run_at b)
unfolding run_at
run_finds b h = then_finds (AllByRecursion IsOctet) IsLetteredPiece (until (ends_at true 60) character_at b) (λ text. Some (run text.0, text.1)) (until_finds IsOctet (ends_at true 60) character_at character_finds b h) (λ t c p k. (octets_of t p, k))

piece_finds : (b : List ℕ) → AreOctets b → Finds IsLetteredPiece (piece_at b)
unfolding piece_at
piece_finds [] h = tt
piece_finds (c ∷ b) h = go (eqb c 60)
  where
    go : (x : Bool) → Finds IsLetteredPiece (cond x (markup_at b) (run_at (c ∷ b)))
    go true = markup_finds b (other_octets c b h)
    go false = run_finds (c ∷ b) h

all_pieces : (b : List ℕ) (list : List Piece) (rest : List ℕ) → Repeats piece_at b list rest → AreOctets b → AllByRecursion IsLetteredPiece list
all_pieces b [] rest h o = tt
all_pieces b (p ∷ list) rest h o =
    let f = subst (λ (x : Option (Piece × List ℕ)). Finds IsLetteredPiece x) h.1 (piece_finds b o) in
    (f.0, all_pieces h.0 list rest h.2 f.1)

-- ---- elements

declared_octets : (prefix : Option (List ℕ)) (list : List Attribute) → AllByRecursion IsLetteredAttribute list → IfSome (declared prefix list) AreOctets
declared_octets prefix [] h = tt
declared_octets prefix (a ∷ list) h = either (λ o. IfSome o AreOctets) (declares prefix a.name) (Some a.value) (declared prefix list) h.0.value (declared_octets prefix list h.1)

not_empty_octets : (o : Option (List ℕ)) → IfSome o AreOctets → IfSome (not_empty o) AreOctets
not_empty_octets None h = tt
not_empty_octets (Some []) h = tt
not_empty_octets (Some (c ∷ text)) h = h

handed_on_lettered : (list : List Attribute) → AllByRecursion IsLetteredAttribute list → AllByRecursion IsLetteredAttribute (handed_on list)
handed_on_lettered [] h = tt
handed_on_lettered (a ∷ list) h =
    let more = handed_on_lettered list h.1 in either (AllByRecursion IsLetteredAttribute) (not (is_declaration a)) (a ∷ handed_on list) (handed_on list) (h.0, more) more

head_lettered : (tag : Tag) (text : List ℕ) → IsLetteredTag tag → AreOctets text → IsLetteredHead (head_of_tag tag text)
unfolding namespace_of
head_lettered tag text t h = record {
  name = t.0;
  namespace = not_empty_octets (declared (prefix_of tag.name) tag.attributes) (declared_octets (prefix_of tag.name) tag.attributes t.1);
  attributes = handed_on_lettered tag.attributes t.1;
  text = h;
}

without_white_octets : (text : List ℕ) → AreOctets text → AreOctets (without_white text)
without_white_octets [] h = refl
without_white_octets (c ∷ text) h = either AreOctets (is_white c) (without_white text) (c ∷ text) (without_white_octets text (other_octets c text h)) h

joined_octets : (a b : List ℕ) → AreOctets a → AreOctets b → AreOctets (a ++ b)
joined_octets a b h k = list_all-append is_octet a b ∙ rw (h, k) refl

reverse_octets : (text : List ℕ) → AreOctets text → AreOctets (reverse text)
reverse_octets [] h = refl
reverse_octets (c ∷ text) h =
    subst AreOctets (sym (reverse-append (c ∷ []) text)) (joined_octets (reverse text) (c ∷ []) (reverse_octets text (other_octets c text h)) (both_octets c [] (first_octet c text h) refl))

trimmed_octets : (text : List ℕ) → AreOctets text → AreOctets (trimmed text)
unfolding trimmed
trimmed_octets text h = reverse_octets (without_white (reverse (without_white text))) (without_white_octets (reverse (without_white text)) (reverse_octets (without_white text) (without_white_octets text h)))

text_octets : (children : Elements) (text : List ℕ) → AreOctets text → AreOctets (text_of_content children text)
text_octets none text h = trimmed_octets text h
text_octets (first head children rest) text h = refl

all_split : {X : Type 0} (P : X → Type 0) (xs ys : List X) → AllByRecursion P (xs ++ ys) → AllByRecursion P xs × AllByRecursion P ys
all_split P [] ys h = (tt, h)
all_split P (x ∷ xs) ys h = let more = all_split P xs ys h.1 in ((h.0, more.0), more.1)

content_lettered : (c : Content) → AllByRecursion IsLetteredPiece (pieces c) → AreLettered (elements_in c) × AreOctets (characters c)
content_lettered nothing h = (tt, refl)
content_lettered (and_run text c) h = let more = content_lettered c h.1 in (more.0, joined_octets text (characters c) h.0 more.1)
content_lettered (and_passed_over c) h = content_lettered c h.1
content_lettered (and_leaf tag c) h = let more = content_lettered c h.1 in ((head_lettered tag [] h.0 refl, (tt, more.0)), more.1)
content_lettered (and_element tag inside c) h =
    let split = all_split IsLetteredPiece (pieces inside) (end tag.name ∷ pieces c) h.1 in
    let within = content_lettered inside split.0 in
    let more = content_lettered c split.1.1 in
    ((head_lettered tag (text_of_content (elements_in inside) (characters inside)) h.0 (text_octets (elements_in inside) (characters inside) within.1), (within.0, more.0)), more.1)

pub document_lettered : (b : List ℕ) (x : Element) → IsDocument b x → AreLettered (alone x)
document_lettered b x doc =
    let all = subst (AllByRecursion IsLetteredPiece) (sym doc.element.spelled) (all_pieces b doc.list [] doc.pieces doc.octets) in
    subst AreLettered doc.element.only (content_lettered doc.element.content all).0
