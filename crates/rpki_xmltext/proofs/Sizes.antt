-- The names, values and texts of a document's element are together no longer than the document.
use Rattle.std.proofs.Common.{◌≡◌, ℕ, zero, suc, ◌+◌, ◌≤◌, Bool, true, false, cond, List, [], ◌∷◌, ◌++◌, length, Option, Some, None, filter, reverse, refl, ap, subst, arith, length-append}
use Rattle.std.specs.Prelude.{codes, nat_eq, not, ◌||◌}
use Rattle.std.proofs.lemmas.List.{length-reverse}
use Rattle.rpki_common.specs.Chaining.{◌>>=◌}
use Rattle.rpki_xml.specs.Content.{Tag, Piece, run, passed_over, leaf, start, end, Content, nothing, and_run, and_passed_over, and_leaf, and_element, pieces, behind, is_declaration, is_white, without_white, trimmed, characters, text_of_content, elements_in}
use Rattle.rpki_xml.specs.Element.{Attribute, Head, Elements, none, first, Element, alone}
use Rattle.rpki_xml.specs.Lexing.{front_of, back_of, or_else, entity_at, any_entity_at, character_at, name_at, past_white, end_at, repeated, until, ends_at, value_in, quoted_at, attribute_at, no_attribute, closed_at, tag_at, past_next, passed_at, behind_front, run_at, markup_at, piece_at, Repeats, IsDocument}
use Rattle.rpki_xml.specs.Name.{is_name, is_name_octet}

-- ---- what is measured

abbrev pub values : List Attribute → ℕ
values [] = 0
values (a ∷ more) = length a.value + values more

abbrev pub weight : Head → ℕ
weight h = length h.name + (values h.attributes + length h.text)

abbrev pub size : Elements → ℕ
size none = 0
size (first head children rest) = weight head + (size children + size rest)

abbrev tag_weight : Tag → ℕ
tag_weight tag = length tag.name + values tag.attributes

abbrev piece_weight : Piece → ℕ
piece_weight (run text) = length text
piece_weight passed_over = 0
piece_weight (leaf tag) = tag_weight tag
piece_weight (start tag) = tag_weight tag
piece_weight (end name) = 0

abbrev total : {X : Type 0} → (X → ℕ) → List X → ℕ
total w [] = 0
total w (x ∷ xs) = w x + total w xs

-- what follows, where it is there, is no longer
abbrev Rests : ℕ → Option (List ℕ) → Type 0
Rests n None = Unit {0}
Rests n (Some b) = length b ≤ n

-- what is there and what follows are together no longer
abbrev Fits : {X : Type 0} → (X → ℕ) → ℕ → Option (X × List ℕ) → Type 0
Fits w n None = Unit {0}
Fits w n (Some x) = w x.0 + length x.1 ≤ n

then_rests : {Y : Type 0} (w : Y → ℕ) (m n : ℕ) (o : Option (List ℕ)) (f : List ℕ → Option (Y × List ℕ)) → Rests m o → ((b : List ℕ) → length b ≤ m → Fits w n (f b)) → Fits w n (o >>= f)
unfolding ◌>>=◌
then_rests w m n None f h k = tt
then_rests w m n (Some b) f h k = k b h

then_fits : {X Y : Type 0} (v : X → ℕ) (w : Y → ℕ) (m n : ℕ) (o : Option (X × List ℕ)) (f : X × List ℕ → Option (Y × List ℕ)) → Fits v m o → ((x : X) (b : List ℕ) → v x + length b ≤ m → Fits w n (f (x, b))) → Fits w n (o >>= f)
unfolding ◌>>=◌
then_fits v w m n None f h k = tt
then_fits v w m n (Some x) f h k = k x.0 x.1 h

or_fits : {X : Type 0} (w : X → ℕ) (n : ℕ) (a b : Option (X × List ℕ)) → Fits w n a → Fits w n b → Fits w n (or_else a b)
or_fits w n None b h k = k
or_fits w n (Some x) b h k = h

either : {X : Type 0} (P : X → Type 0) (t : Bool) (x y : X) → P x → P y → P (cond t x y)
either P true x y h k = h
either P false x y h k = k

-- ---- fronts

front_size : (f : ℕ → Bool) (b : List ℕ) → length (front_of f b) + length (back_of f b) ≤ length b
front_size f [] = omega arith
front_size f (c ∷ b) = go (f c) (front_size f b)
  where
    go : (t : Bool) → length (front_of f b) + length (back_of f b) ≤ length b → length (cond t (c ∷ front_of f b) []) + length (cond t (back_of f b) (c ∷ b)) ≤ length (c ∷ b)
    go true h = omega (arith, h)
    go false h = omega arith

back_size : (f : ℕ → Bool) (b : List ℕ) → length (back_of f b) ≤ length b
back_size f b = let h = front_size f b in omega (arith, h)

behind_size : (front b : List ℕ) → Rests (length b) (behind front b)
behind_size [] b = omega arith
behind_size (c ∷ front) [] = tt
behind_size (c ∷ front) (d ∷ b) = either (Rests (length (d ∷ b))) (nat_eq d c) (behind front b) None (more (behind front b) (behind_size front b)) tt
  where
    more : (o : Option (List ℕ)) → Rests (length b) o → Rests (length (d ∷ b)) o
    more None h = tt
    more (Some r) h = omega (arith, h)

-- ---- characters

abbrev one : ℕ → ℕ
one c = 1

entity_fits : (name : List ℕ) (c : ℕ) (b : List ℕ) → Fits one (suc (length b)) (entity_at name c b)
entity_fits name c b = then_rests one (length b) (suc (length b)) (behind name b) (λ rest. Some (c, rest)) (behind_size name b) (λ rest k. omega (arith, k))

any_entity_fits : (b : List ℕ) → Fits one (suc (length b)) (any_entity_at b)
unfolding any_entity_at
any_entity_fits b =
    or_fits one (suc (length b)) (entity_at (codes "amp;") 38 b) _ (entity_fits (codes "amp;") 38 b)
    (or_fits one (suc (length b)) (entity_at (codes "lt;") 60 b) _ (entity_fits (codes "lt;") 60 b)
    (or_fits one (suc (length b)) (entity_at (codes "gt;") 62 b) _ (entity_fits (codes "gt;") 62 b)
    (or_fits one (suc (length b)) (entity_at (codes "quot;") 34 b) _ (entity_fits (codes "quot;") 34 b) (entity_fits (codes "apos;") 39 b))))

character_fits : (b : List ℕ) → Fits one (length b) (character_at b)
unfolding character_at
character_fits [] = tt
character_fits (c ∷ b) = go (nat_eq c 38) (nat_eq c 60)
  where
    go : (x y : Bool) → Fits one (length (c ∷ b)) (cond x (any_entity_at b) (cond y None (Some (c, b))))
    go true y = any_entity_fits b
    go false true = tt
    go false false = omega arith

repeated_fits : {X : Type 0} (w : X → ℕ) (stops : List ℕ → Bool) (at : List ℕ → Option (X × List ℕ)) → ((b : List ℕ) → Fits w (length b) (at b)) → (n : ℕ) (b : List ℕ) → Fits (total w) (length b) (repeated stops at n b)
repeated_fits w stops at each zero b = tt
repeated_fits {X} w stops at each (suc n) b =
    either (Fits (total w) (length b)) (stops b) (Some ([], b)) (at b >>= λ (y : X × List ℕ). repeated stops at n y.1 >>= λ more. Some (y.0 ∷ more.0, more.1)) (omega arith)
    (then_fits w (total w) (length b) (length b) (at b) (λ y. repeated stops at n y.1 >>= λ more. Some (y.0 ∷ more.0, more.1)) (each b)
    (λ y c p. then_fits (total w) (total w) (length c) (length b) (repeated stops at n c) (λ more. Some (y ∷ more.0, more.1)) (repeated_fits w stops at each n c) (λ ys d ps. omega (arith, p, ps))))

until_fits : {X : Type 0} (w : X → ℕ) (stops : List ℕ → Bool) (at : List ℕ → Option (X × List ℕ)) → ((b : List ℕ) → Fits w (length b) (at b)) → (b : List ℕ) → Fits (total w) (length b) (until stops at b)
unfolding until
until_fits w stops at each b = repeated_fits w stops at each (suc (length b)) b

ones : (text : List ℕ) → total one text ≡ length text
ones [] = refl
ones (c ∷ text) = let e = ones text in omega (arith, e)

-- ---- attributes and starts

name_fits : (b : List ℕ) → Fits (λ (n : List ℕ). length n) (length b) (name_at b)
unfolding name_at
name_fits b = go (is_name (front_of is_name_octet b))
  where
    go : (x : Bool) → Fits (λ (n : List ℕ). length n) (length b) (cond x (Some (front_of is_name_octet b, back_of is_name_octet b)) None)
    go true = front_size is_name_octet b
    go false = tt

value_fits : (quote : ℕ) (b : List ℕ) → Fits (λ (v : List ℕ). length v) (length b) (value_in quote b)
unfolding value_in
value_fits quote b = then_fits (total one) (λ (v : List ℕ). length v) (length b) (length b) (until (ends_at false quote) character_at b) _ (until_fits one (ends_at false quote) character_at character_fits b)
    (λ v c p. then_rests (λ (v : List ℕ). length v) (length c) (length b) (behind (quote ∷ []) c) (λ rest. Some (v, rest)) (behind_size (quote ∷ []) c) (λ rest k. let e = ones v in omega (arith, p, k, e)))

quoted_fits : (b : List ℕ) → Fits (λ (v : List ℕ). length v) (length b) (quoted_at b)
unfolding quoted_at
quoted_fits [] = tt
quoted_fits (c ∷ b) = go (nat_eq c 34 || nat_eq c 39) (value_in c b) (value_fits c b)
  where
    go : (x : Bool) (o : Option (List ℕ × List ℕ)) → Fits (λ (v : List ℕ). length v) (length b) o → Fits (λ (v : List ℕ). length v) (length (c ∷ b)) (cond x o None)
    go true None h = tt
    go true (Some v) h = omega (arith, h)
    go false o h = tt

abbrev value_weight : Attribute → ℕ
value_weight a = length a.value

attribute_fits : (b : List ℕ) → Fits value_weight (length b) (attribute_at b)
unfolding attribute_at
attribute_fits b = then_fits (λ (n : List ℕ). length n) value_weight (length (past_white b)) (length b) (name_at (past_white b)) _ (name_fits (past_white b))
    (λ n c p. then_rests value_weight (length (past_white c)) (length b) (behind (codes "=") (past_white c)) _ (behind_size (codes "=") (past_white c))
    (λ d l. then_fits (λ (v : List ℕ). length v) value_weight (length (past_white d)) (length b) (quoted_at (past_white d)) (λ value. Some (record { name = n; value = value.0 }, value.1)) (quoted_fits (past_white d))
    (λ v e m.
    let x = back_size is_white b in
    let y = back_size is_white c in
    let z = back_size is_white d in
    omega (arith, p, l, m, x, y, z))))

total_values : (list : List Attribute) → total value_weight list ≡ values list
total_values [] = refl
total_values (a ∷ list) = let e = total_values list in omega (arith, e)

closed_fits : (tag : Tag) (b : List ℕ) → Fits piece_weight (tag_weight tag + length b) (closed_at tag b)
closed_fits tag b = or_fits piece_weight (tag_weight tag + length b) (behind (codes "/>") b >>= λ rest. Some (leaf tag, rest)) _
    (then_rests piece_weight (length b) (tag_weight tag + length b) (behind (codes "/>") b) (λ rest. Some (leaf tag, rest)) (behind_size (codes "/>") b) (λ rest k. omega (arith, k)))
    (then_rests piece_weight (length b) (tag_weight tag + length b) (behind (codes ">") b) (λ rest. Some (start tag, rest)) (behind_size (codes ">") b) (λ rest k. omega (arith, k)))

widened : {X : Type 0} (w : X → ℕ) (m n : ℕ) (o : Option (X × List ℕ)) → m ≤ n → Fits w m o → Fits w n o
widened w m n None le h = tt
widened w m n (Some x) le h = omega (arith, le, h)

tag_fits : (b : List ℕ) → Fits piece_weight (length b) (tag_at b)
unfolding tag_at
tag_fits b = then_fits (λ (n : List ℕ). length n) piece_weight (length b) (length b) (name_at b) _ (name_fits b)
    (λ n c p. then_fits (total value_weight) piece_weight (length c) (length b) (until no_attribute attribute_at c) (λ attributes. closed_at (record { name = n; attributes = attributes.0 }) (past_white attributes.1)) (until_fits value_weight no_attribute attribute_at attribute_fits c)
    (λ list d q.
    let x = back_size is_white d in
    let e = total_values list in
    widened piece_weight (tag_weight (record { name = n; attributes = list }) + length (past_white d)) (length b) (closed_at (record { name = n; attributes = list }) (past_white d)) (omega (arith, p, q, x, e)) (closed_fits (record { name = n; attributes = list }) (past_white d))))

-- ---- pieces

end_fits : (b : List ℕ) → Fits piece_weight (length b) (end_at b)
unfolding end_at
end_fits b = then_fits (λ (n : List ℕ). length n) piece_weight (length b) (length b) (name_at b) _ (name_fits b)
    (λ n c p. then_rests piece_weight (length (past_white c)) (length b) (behind (codes ">") (past_white c)) (λ rest. Some (end n, rest)) (behind_size (codes ">") (past_white c)) (λ rest l. let x = back_size is_white c in omega (arith, p, l, x)))

next_size : (close b : List ℕ) → Rests (length b) (past_next close b)
next_size close [] = tt
next_size close (c ∷ b) = go (behind close (c ∷ b)) (past_next close b) (behind_size close (c ∷ b)) (next_size close b)
  where
    go : (o p : Option (List ℕ)) → Rests (length (c ∷ b)) o → Rests (length b) p → Rests (length (c ∷ b)) (or_else o p)
    go None None h k = tt
    go None (Some r) h k = omega (arith, k)
    go (Some r) p h k = h

passed_fits : (close b : List ℕ) → Fits piece_weight (length b) (passed_at close b)
unfolding passed_at
passed_fits close b = then_rests piece_weight (length b) (length b) (past_next close b) (λ rest. Some (passed_over, rest)) (next_size close b) (λ rest k. omega (arith, k))

front_fits : {X : Type 0} (w : X → ℕ) (n : ℕ) (o : Option (List ℕ)) (at : List ℕ → Option (X × List ℕ)) (other : Option (X × List ℕ)) → Rests n o → ((b : List ℕ) → Fits w (length b) (at b)) → Fits w n other → Fits w n (behind_front o at other)
front_fits w n None at other h k l = l
front_fits w n (Some b) at other h k l = widened w (length b) n (at b) h (k b)

markup_fits : (b : List ℕ) → Fits piece_weight (length b) (markup_at b)
unfolding markup_at
markup_fits b = front_fits piece_weight (length b) (behind (codes "/") b) end_at _ (behind_size (codes "/") b) end_fits
    (front_fits piece_weight (length b) (behind (codes "!--") b) (passed_at (codes "-->")) _ (behind_size (codes "!--") b) (passed_fits (codes "-->"))
    (front_fits piece_weight (length b) (behind (codes "?") b) (passed_at (codes "?>")) _ (behind_size (codes "?") b) (passed_fits (codes "?>")) (tag_fits b)))

run_fits : (b : List ℕ) → Fits piece_weight (length b) (run_at b)
unfolding run_at
run_fits b = then_fits (total one) piece_weight (length b) (length b) (until (ends_at true 60) character_at b) (λ text. Some (run text.0, text.1)) (until_fits one (ends_at true 60) character_at character_fits b)
    (λ t c p. let e = ones t in omega (arith, p, e))

piece_fits : (b : List ℕ) → Fits piece_weight (length b) (piece_at b)
unfolding piece_at
piece_fits [] = tt
piece_fits (c ∷ b) = either (Fits piece_weight (length (c ∷ b))) (nat_eq c 60) (markup_at b) (run_at (c ∷ b)) (widened piece_weight (length b) (length (c ∷ b)) (markup_at b) (omega arith) (markup_fits b)) (run_fits (c ∷ b))

all_pieces : (b : List ℕ) (list : List Piece) (rest : List ℕ) → Repeats piece_at b list rest → total piece_weight list + length rest ≤ length b
all_pieces b [] rest h = let e = ap (λ (l : List ℕ). length l) h in omega (arith, e)
all_pieces b (p ∷ list) rest h =
    let f = subst (λ (x : Option (Piece × List ℕ)). Fits piece_weight (length b) x) h.1 (piece_fits b) in
    let more = all_pieces h.0 list rest h.2 in
    omega (arith, f, more)

-- ---- elements

total_append : (xs ys : List Piece) → total piece_weight (xs ++ ys) ≡ total piece_weight xs + total piece_weight ys
total_append [] ys = omega arith
total_append (x ∷ xs) ys = let e = total_append xs ys in omega (arith, e)

pub filter_values : (f : Attribute → Bool) (list : List Attribute) → values (filter f list) ≤ values list
filter_values f [] = omega arith
filter_values f (a ∷ list) = go (f a) (filter_values f list)
  where
    go : (b : Bool) → values (filter f list) ≤ values list → values (cond b (a ∷ filter f list) (filter f list)) ≤ values (a ∷ list)
    go true h = omega (arith, h)
    go false h = omega (arith, h)

white_size : (text : List ℕ) → length (without_white text) ≤ length text
white_size [] = omega arith
white_size (c ∷ text) = either (λ (l : List ℕ). length l ≤ length (c ∷ text)) (is_white c) (without_white text) (c ∷ text) (let h = white_size text in omega (arith, h)) (omega arith)

trimmed_size : (text : List ℕ) → length (trimmed text) ≤ length text
unfolding trimmed
trimmed_size text =
    let a = white_size text in
    let b = length-reverse (without_white text) in
    let c = white_size (reverse (without_white text)) in
    let d = length-reverse (without_white (reverse (without_white text))) in
    omega (arith, a, b, c, d)

text_size : (children : Elements) (text : List ℕ) → length (text_of_content children text) ≤ length text
text_size none text = trimmed_size text
text_size (first head children rest) text = omega arith

content_size : (c : Content) → size (elements_in c) + length (characters c) ≤ total piece_weight (pieces c)
content_size nothing = omega arith
content_size (and_run text c) = let h = content_size c in let e = length-append text (characters c) in omega (arith, h, e)
content_size (and_passed_over c) = let h = content_size c in omega (arith, h)
content_size (and_leaf tag c) = let h = content_size c in let a = filter_values (λ a. not (is_declaration a)) tag.attributes in omega (arith, h, a)
content_size (and_element tag inside c) =
    let h = content_size inside in
    let k = content_size c in
    let a = filter_values (λ a. not (is_declaration a)) tag.attributes in
    let t = text_size (elements_in inside) (characters inside) in
    let e = total_append (pieces inside) (end tag.name ∷ pieces c) in
    omega (arith, h, k, a, t, e)

pub document_size : (b : List ℕ) (x : Element) → IsDocument b x → size (alone x) ≤ length b
document_size b x doc =
    let all = all_pieces b doc.list [] doc.pieces in
    let is = ap (λ (l : List Piece). total piece_weight l) doc.element.spelled in
    let inside = content_size doc.element.content in
    let only = ap size doc.element.only in
    omega (arith, all, is, inside, only)
