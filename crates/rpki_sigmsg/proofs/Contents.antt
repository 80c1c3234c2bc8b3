-- The content of a signed message that begins octets is no longer than they are.
use Rattle.std.proofs.Common.{◌≡◌, ℕ, ◌+◌, ◌≤◌, Option, Some, List, [], ◌++◌, length, subst, ap, ◌∙◌, arith, length-append}
use Rattle.rpki_common.proofs.Bounds.{bound, chosen}
use Rattle.rpki_common.proofs.Truths.{none_some, same_some}
use Rattle.rpki_der.specs.declared.mode.Mode.TheVariants.{Ber}
use Rattle.rpki_der.specs.Grammar.{within, wrapped, so}
use Rattle.rpki_der.specs.Held.{with_octets}
use Rattle.rpki_der.specs.Identifier.{has_tag}
use Rattle.rpki_der.specs.OctetString.{joined_pieces, joined_all, octets_under, octet_string}
use Rattle.rpki_der.specs.Tags.{octet_string_tag, sequence, context}
use Rattle.rpki_der.specs.Takes.{BeginsAs}
use Rattle.rpki_der.specs.Value.{Value, Primitive, Constructed, Values, End, ◌▸◌, lengths_of, end_mark, spelling, spellings}
use Rattle.rpki_der.proofs.Firsts.{FirstIs, done_is}
use Rattle.rpki_sigmsg.specs.Message.{MessageFields, ViewFields, encapsulated_content, view_of, signed_parts, viewed_message, message_of_view, signed_message}
use Rattle.rpki_sigmsg.proofs.Fields.{field}

-- ---- what a grammar reads is no longer than the value

abbrev IsInside : {X : Type 0} → (X → ℕ) → (Value → Option X) → Type 0
IsInside {X = X} size grammar = (v : Value) (x : X) → grammar v ≡ Some x → size x ≤ length (spelling v)

abbrev AreInside : {X : Type 0} → (X → ℕ) → (Values → Option X) → Type 0
AreInside {X = X} size fields = (vs : Values) (x : X) → fields vs ≡ Some x → size x ≤ length (spellings vs)

inner : (i l c m : List ℕ) (n : ℕ) → n ≤ length c → n ≤ length (i ++ (l ++ (c ++ m)))
inner i l c m n h = omega (arith, length-append i (l ++ (c ++ m)), length-append l (c ++ m), length-append c m)

contents : (i l c : List ℕ) → length c ≤ length (i ++ (l ++ c))
contents i l c = omega (arith, length-append i (l ++ c), length-append l c)

inside_within : {X : Type 0} (size : X → ℕ) (tag : List ℕ) (fields : Values → Option X) → AreInside size fields → IsInside size (within tag fields)
unfolding within
inside_within size tag fields g (Primitive i l c) x e = absurd (none_some x e)
inside_within size tag fields g (Constructed i f vs) x e =
    inner i (lengths_of f) (spellings vs) (end_mark f) (size x) (g vs x (chosen (has_tag tag i) (fields vs) x e))

sizes : {X : Type 0} (grammar : Value → Option X) (vs : Values) (p : X × Values) (f : FirstIs grammar vs p) → length (spellings vs) ≡ length (spelling f.value) + length (spellings p.1)
sizes grammar vs p f = ap (λ (w : Values). length (spellings w)) f.parts ∙ length-append (spelling f.value) (spellings p.1)

inside_wrapped : {X : Type 0} (size : X → ℕ) (tag : List ℕ) (grammar : Value → Option X) → IsInside size grammar → IsInside size (wrapped tag grammar)
unfolding wrapped
inside_wrapped {X = X} size tag grammar g = inside_within size tag _ (λ vs x e.
    let b = field grammar vs _ x e in
    let is = done_is b.x.0 x b.x.1 b.then' in
    let h = g b.is.value b.x.0 b.is.reads in
    subst (λ (y : X). size y ≤ length (spellings vs)) is (omega (arith, h, sizes grammar vs b.x b.is)))

inside_with_octets : {X : Type 0} (size : X → ℕ) (grammar : Value → Option X) → IsInside size grammar → IsInside (λ (y : List ℕ × X). size y.1) (with_octets grammar)
unfolding with_octets
inside_with_octets {X = X} size grammar g v p e =
    let b = bound (grammar v) _ p e in
    g v p.1 (b.found ∙ ap Some (ap (λ (q : List ℕ × X). q.1) (same_some _ _ b.then')))

-- ---- octet strings

mutual
  unfolding joined_pieces

  joined_inside : (tag : List ℕ) (v : Value) (octets : List ℕ) → joined_pieces tag v ≡ Some octets → length octets ≤ length (spelling v)
  joined_inside tag (Primitive i l c) octets e =
      let is = same_some c octets (chosen (has_tag tag i) (Some c) octets e) in
      subst (λ (o : List ℕ). length o ≤ length (i ++ (l ++ c))) is (contents i l c)
  joined_inside tag (Constructed i f vs) octets e =
      inner i (lengths_of f) (spellings vs) (end_mark f) (length octets) (all_inside vs octets (chosen (has_tag tag i) (joined_all vs) octets e))

  all_inside : (vs : Values) (octets : List ℕ) → joined_all vs ≡ Some octets → length octets ≤ length (spellings vs)
  all_inside End octets e = let is = same_some [] octets e in subst (λ (o : List ℕ). length o ≤ 0) is (omega arith)
  all_inside (v ▸ vs) octets e =
      let a = bound (joined_pieces octet_string_tag v) _ octets e in
      let w = bound (joined_all vs) _ octets a.then' in
      let is = same_some (a.x ++ w.x) octets w.then' in
      subst (λ (o : List ℕ). length o ≤ length (spelling v ++ spellings vs)) is (omega (arith, length-append a.x w.x, length-append (spelling v) (spellings vs), joined_inside octet_string_tag v a.x a.found, all_inside vs w.x w.found))

string_inside : IsInside (λ (o : List ℕ). length o) (octet_string Ber)
unfolding octets_under
string_inside v octets e = joined_inside octet_string_tag v octets e

-- ---- the message

abbrev content_size : List ℕ × List ℕ → ℕ
content_size y = length y.1

abbrev view_size : ViewFields → ℕ
view_size w = length w.message.content

content_inside : IsInside content_size (encapsulated_content Ber)
unfolding encapsulated_content
content_inside = inside_within content_size sequence _ (λ vs x e.
    let a = field _ vs _ x e in
    let b = field _ a.x.1 _ x a.then' in
    let is = done_is b.x.0 x b.x.1 b.then' in
    let h = inside_wrapped content_size (context 0) (with_octets (octet_string Ber)) (inside_with_octets (λ (o : List ℕ). length o) (octet_string Ber) string_inside) b.is.value b.x.0 b.is.reads in
    subst (λ (y : List ℕ × List ℕ). content_size y ≤ length (spellings vs)) is (omega (arith, h, sizes _ vs a.x a.is, sizes _ a.x.1 b.x b.is)))

parts_inside : IsInside view_size (signed_parts Ber)
unfolding signed_parts
parts_inside = inside_within view_size sequence _ (λ vs w e.
    let a = field _ vs _ w e in
    let b = field _ a.x.1 _ w a.then' in
    let c = field _ b.x.1 _ w b.then' in
    let d = bound _ _ w c.then' in
    let k = bound _ _ w d.then' in
    let m = bound _ _ w k.then' in
    let is = done_is (view_of c.x.0 d.x.0 k.x.0 m.x.0) w m.x.1 m.then' in
    let h = content_inside c.is.value c.x.0 c.is.reads in
    subst (λ (y : ViewFields). view_size y ≤ length (spellings vs)) is (omega (arith, h, sizes _ vs a.x a.is, sizes _ a.x.1 b.x b.is, sizes _ b.x.1 c.x c.is)))

view_inside : IsInside view_size (viewed_message Ber)
unfolding viewed_message
view_inside = inside_within view_size sequence _ (λ vs w e.
    let a = field _ vs _ w e in
    let b = field _ a.x.1 _ w a.then' in
    let is = done_is b.x.0 w b.x.1 b.then' in
    let h = inside_wrapped view_size (context 0) (signed_parts Ber) parts_inside b.is.value b.x.0 b.is.reads in
    subst (λ (y : ViewFields). view_size y ≤ length (spellings vs)) is (omega (arith, h, sizes _ vs a.x a.is, sizes _ a.x.1 b.x b.is)))

message_inside : IsInside (λ (m : MessageFields). length m.content) (signed_message Ber)
unfolding signed_message so
message_inside v m e =
    let b = bound (viewed_message Ber v) message_of_view m e in
    subst (λ (n : MessageFields). length n.content ≤ length (spelling v)) (same_some b.x.message m b.then') (view_inside v b.x b.found)

pub content_within : (octets : List ℕ) (m : MessageFields) → BeginsAs (signed_message Ber) Ber octets m → length m.content ≤ length octets
content_within octets m s =
    omega (arith, message_inside s.value m s.reads, ap (λ (o : List ℕ). length o) s.begins.parts, length-append (spelling s.value) s.rest)
