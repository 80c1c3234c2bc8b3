-- What the calls that give whole values say of the values that stand there.
use Rattle.std.proofs.Common.{◌≡◌, ℕ, ◌+◌, ◌-◌, ◌*◌, ◌≤◌, inl, inr, Bool, true, false, Option, None, Some, Result, Ok, Err, List, [], ◌∷◌, ◌++◌, length, take, refl, sym, ap, subst, ◌∙◌, arith, length-append}
use Rattle.std.specs.Prelude.{IsErrAnd, IfOk, OnOk, OnErr}
use Rattle.std.proofs.lemmas.List.{take_at}
use Rattle.rpki_der.specs.declared.error.DecodeError.{DecodeError}
use Rattle.rpki_der.specs.declared.error.DecodeError.TheVariants.{Malformed, OutOfMemory}
use Rattle.rpki_der.specs.declared.mode.Mode.{Mode}
use Rattle.rpki_der.specs.Identifier.{tag_of, has_tag}
use Rattle.rpki_der.specs.Header.{IdentifierFirst, NoIdentifier}
use Rattle.rpki_der.specs.Value.{Definite, Indefinite, lengths_of, end_mark, Value, Primitive, Constructed, Values, End, ◌▸◌, spelling, spellings, IsValue, AreValues, Begins}
use Rattle.rpki_der.specs.Level.{Level, Sized, Marked, LevelHolds, Opens}
use Rattle.rpki_der.specs.Part.{NoValue}
use Rattle.rpki_der.specs.Walk.{Completes}
use Rattle.rpki_der.specs.ExactWalk.{CompletesExactly}
use Rattle.rpki_der.specs.Position.{Position, top, AtEnd}
use Rattle.rpki_der.specs.Grammar.{identifier_of, optional}
use Rattle.rpki_der.specs.Takes.{TakesOne, NoneStands, Refuses, RefusesFields}
use Rattle.rpki_der.specs.Ticks.{counts, all_counts, left, CountedOne, CountedRefuses, TakesCounted, CountedFields, CountedRefusesFields}
use Rattle.rpki_der.specs.Item.{ItemFields, item, any_item, item_with, OtherFirst, Absent, CountedAbsent, RefusesOptionalAs, TakesOptionalAs, RefusesNext, CountedRefusesNext, TakesNextCounted, RefusesOptional, CountedRefusesOptional, TakesOptionalCounted}
use Rattle.rpki_der.specs.BehindHeader.{content_in, ShowsWhole}
use Rattle.rpki_der.proofs.Uniqueness.{same_identifier, three_parts, four_parts}
use Rattle.rpki_der.proofs.Parts.{at_most_one}
use Rattle.rpki_der.proofs.Walks.{opens_back, opens_forth, ends_no_value, end_holds, holds_more}
use Rattle.rpki_der.proofs.ExactWalks.{same_marks, nodes_counts}
use Rattle.rpki_der.proofs.Cursors.{slice_of}
use Rattle.rpki_der.proofs.Counting.{some_identifier, begins_left, refuses_at_once}
use Rattle.rpki_der.proofs.Reading.{Next}
use Rattle.rpki_der.proofs.Counting as counting

pub same_error : {X : Type 0} (e f : DecodeError) → ◌≡◌ {A = Result X DecodeError} (Err e) (Err f) → e ≡ f
same_error e f is = cc

-- ---- the octets of one value

pub one_level : (opened opened' : List Level) (level : Level) → opened ≡ [] → opened' ≡ level ∷ opened → opened' ≡ level ∷ []
one_level opened opened' level none e = e ∙ ap (λ (ls : List Level). level ∷ ls) none

pub none_constructed : (mode : Mode) (here i inner : List ℕ) (level : Level) (levels : List Level) → levels ≡ level ∷ [] → Opens mode here i level inner → ((final : List ℕ) → Completes mode inner levels final → ⊥) → NoValue mode here
none_constructed mode here i inner level levels e o none v rest b =
    let w = opens_forth mode here i level inner v rest o b in
    none rest (subst (λ (ls : List Level). Completes mode inner ls rest) (sym e) (w.values, rest, w.holds, refl))

content_whole : (mode : Mode) (level : Level) (inner : List ℕ) (vs : Values) (rest : List ℕ) → LevelHolds mode level inner vs rest → content_in level inner rest ≡ spellings vs
content_whole mode (Sized after) inner vs rest h = h.1
content_whole mode Marked inner vs rest h =
    let size : length inner - length rest - 2 ≡ length (spellings vs) = omega (arith, simp length-append at (ap length h.1)) in
    rw (size, h.1) (take_at (spellings vs) (0 ∷ 0 ∷ rest) (length (spellings vs)) refl)

slice_whole : (mode : Mode) (here : List ℕ) (v : Value) (rest slice : List ℕ) → Begins mode here v rest → slice ≡ take (length here - length rest) here → slice ≡ spelling v
slice_whole mode here v rest slice b s = let e : Some (spelling v) ≡ Some slice = slice_of here v rest slice mode b s in cc

pub whole_constructed : (mode : Mode) (here i inner rest content slice : List ℕ) (level : Level) (levels : List Level) (b a : ℕ) → levels ≡ level ∷ [] → Opens mode here i level inner → (n : ℕ) × CompletesExactly mode inner levels rest n × (a ≡ b + n) → content ≡ content_in level inner rest → slice ≡ take (length here - length rest) here → ShowsWhole mode here rest b a (record { tag = tag_of i; constructed = true; content = content; slice = slice })
whole_constructed mode here i inner rest content slice level levels b a e o w is s =
    let k = subst (λ (ls : List Level). CompletesExactly mode inner ls rest w.0) e w.1 in
    let vs = k.0 in
    let h : LevelHolds mode level inner vs rest = subst (LevelHolds mode level inner vs) k.4.0 k.3 in
    let r = opens_back mode here i level inner vs rest o h in
    let v : Value = Constructed i r.form vs in
    let same = same_marks r.form level r.fits in
    (v, r.begins, rw (is, content_whole mode level inner vs rest h, slice_whole mode here v rest slice r.begins s) refl, omega (arith, w.2, k.5, k.4.1, same))

pub passed_constructed : (mode : Mode) (here i inner rest : List ℕ) (level : Level) (levels : List Level) (b a : ℕ) → levels ≡ level ∷ [] → Opens mode here i level inner → (n : ℕ) × CompletesExactly mode inner levels rest n × (a ≡ b + n) → length rest ≤ length here
passed_constructed mode here i inner rest level levels b a e o w =
    let k = subst (λ (ls : List Level). CompletesExactly mode inner ls rest w.0) e w.1 in
    let h : LevelHolds mode level inner k.0 rest = subst (LevelHolds mode level inner k.0) k.4.0 k.3 in
    let r = opens_back mode here i level inner k.0 rest o h in
    omega (arith, begins_left mode here (Constructed i r.form k.0) rest r.begins)

mutual
  counts_most : (mode : Mode) (v : Value) → IsValue mode v → counts v ≤ length (spelling v)
  counts_most mode (Primitive i l c) p = omega (arith, some_identifier i p.0, length-append i (l ++ c))
  counts_most mode (Constructed i (Definite l) vs) p = omega (arith, some_identifier i p.0, all_counts_most mode vs p.3, length-append i (l ++ (spellings vs ++ [])), length-append l (spellings vs ++ []), length-append (spellings vs) [])
  counts_most mode (Constructed i Indefinite vs) p = omega (arith, some_identifier i p.0, all_counts_most mode vs p.3, length-append i (128 ∷ (spellings vs ++ 0 ∷ 0 ∷ [])), length-append (spellings vs) (0 ∷ 0 ∷ []))

  all_counts_most : (mode : Mode) (vs : Values) → AreValues mode vs → all_counts vs ≤ length (spellings vs)
  all_counts_most mode End p = omega arith
  all_counts_most mode (v ▸ vs) p = omega (arith, counts_most mode v p.0, all_counts_most mode vs p.1, length-append (spelling v) (spellings vs))

-- there are no more headers and end marks than octets
pub counts_passed : (mode : Mode) (here : List ℕ) (v : Value) (rest : List ℕ) → Begins mode here v rest → counts v + length rest ≤ length here
counts_passed mode here v rest b = omega (arith, counts_most mode v b.lawful, length-append (spelling v) rest, ap length b.parts)

-- ---- the identifier that stands next

pub begins_identifier : (mode : Mode) (here : List ℕ) (v : Value) (rest : List ℕ) → Begins mode here v rest → (r : List ℕ) × IdentifierFirst here (identifier_of v) r
begins_identifier mode here (Primitive i l c) rest b = (l ++ (c ++ rest), record { is_identifier = b.lawful.0; parts = b.parts ∙ three_parts i l c rest })
begins_identifier mode here (Constructed i f vs) rest b = (lengths_of f ++ (spellings vs ++ (end_mark f ++ rest)), record { is_identifier = b.lawful.0; parts = b.parts ∙ four_parts i (lengths_of f) (spellings vs) (end_mark f) rest })

pub identifier_once : (here i j x y : List ℕ) → IdentifierFirst here i x → IdentifierFirst here j y → i ≡ j
identifier_once here i j x y p q = (same_identifier i j x y p.is_identifier q.is_identifier (sym p.parts ∙ q.parts)).front

pub none_identified : (mode : Mode) (here : List ℕ) → NoIdentifier here → NoValue mode here
none_identified mode here none v rest b = let f = begins_identifier mode here v rest b in none (identifier_of v) f.0 f.1

pub next_tagged : (tag : List ℕ) (mode : Mode) (here i r : List ℕ) (v : Value) (rest : List ℕ) → IdentifierFirst here i r → Begins mode here v rest → has_tag tag (identifier_of v) ≡ has_tag tag i
next_tagged tag mode here i r v rest f b = let g = begins_identifier mode here v rest b in ap (has_tag tag) (identifier_once here (identifier_of v) i g.0 r g.1 f)

-- ---- `next_value`

pub whole_any : (p q : Position) (b m a : ℕ) (x : ItemFields) → ShowsWhole p.mode p.here q.here m a x → (q.levels ≡ p.levels) × (q.mode ≡ p.mode) → m ≡ b + 1 → CountedOne 1 any_item p q b a x
whole_any p q b m a x w e t = record {
  takes = record {
    value = w.0;
    begins = w.1;
    reads = ap Some (sym w.2);
    levels = e.0;
    mode = e.1;
  };
  least = omega (arith, t, w.3, nodes_counts w.0);
  most = rw e.0 (omega (arith, t, w.3, counts_passed p.mode p.here w.0 q.here w.1));
}

pub refuses_next : (p : Position) (b a : ℕ) (e : DecodeError) → (AtEnd p → ⊥) → (e ≡ Malformed → NoValue p.mode p.here) → b ≤ a → a ≤ b + length p.here + 1 → CountedRefusesNext 1 p b a e
unfolding RefusesNext
refuses_next p b a Malformed more none l t = record { refuses = (more, none refl); least = l; most = omega (arith, t) }
refuses_next p b a OutOfMemory more none l t = record { refuses = more; least = l; most = omega (arith, t) }

pub next_err : (p q : Position) (b a : ℕ) (error : DecodeError) (r : Result (Option ItemFields) DecodeError) → IsErrAnd r (λ e. e ≡ error) → CountedRefusesNext 1 p b a error → TakesNextCounted 1 p q b a r
next_err p q b a error (Ok y) h n = absurd h
next_err p q b a error (Err e) h n = subst (CountedRefusesNext 1 p b a) (sym h) n

-- ---- `take_if`

pub whole_with : (tag : List ℕ) (p q : Position) (i r : List ℕ) (b m a : ℕ) (x : ItemFields) → IdentifierFirst p.here i r → has_tag tag i ≡ true → ShowsWhole p.mode p.here q.here m a x → (q.levels ≡ p.levels) × (q.mode ≡ p.mode) → m ≡ b + 1 → CountedOne 1 (item_with tag) p q b a x
unfolding whole_any
whole_with tag p q i r b m a x f tagged w e t =
    let k = whole_any p q b m a x w e t in
    record {
      takes = record {
        value = w.0;
        begins = w.1;
        reads = rw (next_tagged tag p.mode p.here i r w.0 q.here f w.1, tagged) (ap Some (sym w.2));
        levels = e.0;
        mode = e.1;
      };
      least = k.least;
      most = k.most;
    }

with_none : (tag : List ℕ) (p : Position) → NoValue p.mode p.here → NoneStands (item_with tag) p
with_none tag p none v rest b = absurd (none v rest b)

with_other : (tag : List ℕ) (p : Position) (i r : List ℕ) → IdentifierFirst p.here i r → has_tag tag i ≡ false → NoneStands (item_with tag) p
with_other tag p i r f other v rest b = rw (next_tagged tag p.mode p.here i r v rest f b, other) refl

pub refuses_other : (tag : List ℕ) (p : Position) (i r : List ℕ) (b a : ℕ) → IdentifierFirst p.here i r → has_tag tag i ≡ false → a ≡ b + 1 → CountedRefuses 1 (item_with tag) p b a Malformed
unfolding Refuses
refuses_other tag p i r b a f other t = refuses_at_once 1 (item_with tag) p b a Malformed (with_other tag p i r f other) t

pub refuses_unidentified : (tag : List ℕ) (p : Position) (b a : ℕ) → NoIdentifier p.here → a ≡ b + 1 → CountedRefuses 1 (item_with tag) p b a Malformed
unfolding Refuses
refuses_unidentified tag p b a none t = refuses_at_once 1 (item_with tag) p b a Malformed (with_none tag p (none_identified p.mode p.here none)) t

pub refuses_with : (tag : List ℕ) (p : Position) (b a : ℕ) (e : DecodeError) → (e ≡ Malformed → NoValue p.mode p.here) → b ≤ a → a ≤ b + length p.here + 1 → CountedRefuses 1 (item_with tag) p b a e
unfolding Refuses
refuses_with tag p b a Malformed none l t = record { refuses = with_none tag p (none refl); least = l; most = omega (arith, t) }
refuses_with tag p b a OutOfMemory none l t = record { refuses = tt; least = l; most = omega (arith, t) }

pub takes_with : (tag : List ℕ) (p q : Position) (i r : List ℕ) (b m a : ℕ) (result : Result ItemFields DecodeError) → IdentifierFirst p.here i r → has_tag tag i ≡ true → IfOk result (λ x. ShowsWhole p.mode p.here q.here m a x) → OnOk result ((q.levels ≡ p.levels) × (q.mode ≡ p.mode)) → (result ≡ Err Malformed → NoValue p.mode p.here) → OnErr result (m ≤ a) → OnErr result (a ≤ m + length p.here) → m ≡ b + 1 → TakesCounted 1 (item_with tag) (λ i. i) p q b a result
takes_with tag p q i r b m a (Ok x) f tagged w e none k l t = whole_with tag p q i r b m a x f tagged w e t
takes_with tag p q i r b m a (Err error) f tagged w e none k l t = refuses_with tag p b a error (λ is. none (ap Err is)) (omega (arith, t, k)) (omega (arith, t, l))

-- ---- `take_opt_if`

not_other : (tag here i r : List ℕ) → IdentifierFirst here i r → has_tag tag i ≡ true → OtherFirst tag here → ⊥
not_other tag here i r f tagged o =
    let e : true ≡ false = sym tagged ∙ ap (has_tag tag) (identifier_once here i o.0 r o.1 f o.2) ∙ o.3 in cc

pub not_absent : (tag : List ℕ) (p : Position) (i r : List ℕ) → (AtEnd p → ⊥) → IdentifierFirst p.here i r → has_tag tag i ≡ true → Absent tag p → ⊥
not_absent tag p i r more f tagged (inl e) = more e
not_absent tag p i r more f tagged (inr o) = not_other tag p.here i r f tagged o

pub not_absent_unidentified : (tag : List ℕ) (p : Position) → (AtEnd p → ⊥) → NoIdentifier p.here → Absent tag p → ⊥
not_absent_unidentified tag p more none (inl e) = more e
not_absent_unidentified tag p more none (inr o) = none o.0 o.1 o.2

pub refuses_optional : (tag : List ℕ) (p : Position) (b a : ℕ) (e : DecodeError) → (Absent tag p → ⊥) → (e ≡ Malformed → NoValue p.mode p.here) → b ≤ a → a ≤ b + length p.here + 1 → CountedRefusesOptional 1 tag p b a e
unfolding RefusesOptional
refuses_optional tag p b a Malformed present none l t = record { refuses = (present, none refl); least = l; most = omega (arith, t) }
refuses_optional tag p b a OutOfMemory present none l t = record { refuses = present; least = l; most = omega (arith, t) }

pub optional_err : (tag : List ℕ) (p q : Position) (b a : ℕ) (error : DecodeError) (r : Result (Option ItemFields) DecodeError) → IsErrAnd r (λ e. e ≡ error) → CountedRefusesOptional 1 tag p b a error → TakesOptionalCounted 1 tag p q b a r
optional_err tag p q b a error (Ok y) h n = absurd h
optional_err tag p q b a error (Err e) h n = subst (CountedRefusesOptional 1 tag p b a) (sym h) n

-- ---- an optional field, by `take_opt_if`

absent_next : (tag : List ℕ) (p : Position) (b a : ℕ) → CountedAbsent tag p b a → Next tag p false
absent_next tag p b a (inl e) v rest h = absurd (ends_no_value p.mode (top p.levels) p.here e.0.0 e.0.1 v rest h)
absent_next tag p b a (inr o) v rest h = next_tagged tag p.mode p.here o.0.0 o.0.1 v rest o.0.2 h ∙ o.0.3

absent_least : (tag : List ℕ) (p : Position) (b a : ℕ) → CountedAbsent tag p b a → b ≤ a
absent_least tag p b a (inl e) = omega (arith, e.1)
absent_least tag p b a (inr o) = omega (arith, o.1)

absent_most : (tag : List ℕ) (p : Position) (b a : ℕ) → CountedAbsent tag p b a → a ≤ b + 1
absent_most tag p b a (inl e) = omega (arith, e.1)
absent_most tag p b a (inr o) = omega (arith, o.1)

pub takes_optional_absent : {X : Type 0} (c : ℕ) (tag : List ℕ) (field : Value → Option X) (p q : Position) (b a : ℕ) → CountedAbsent tag p b a × (q ≡ p) → CountedFields c 1 (optional tag field) p q b a None
takes_optional_absent c tag field p q b a w =
    subst (λ (r : Position). CountedFields c 1 (optional tag field) p r b a None) (sym w.1) (counting.takes_optional_none c tag field p b a (absent_least tag p b a w.0) (absent_most tag p b a w.0) (absent_next tag p b a w.0))

-- ---- a field is what a conversion makes of the value

-- of every value with this tag, field reads what convert makes of what it shows
pub record Converts {X : Type 0} (tag : List ℕ) (field : Value → Option X) (convert : ItemFields → Option X) : Type 0 where
  pub is : (v : Value) → has_tag tag (identifier_of v) ≡ true → field v ≡ convert (item v)

pub record HasItem (tag : List ℕ) (v : Value) (x : ItemFields) : Type 0 where
  pub tagged : has_tag tag (identifier_of v) ≡ true
  pub is : item v ≡ x

with_found : (tag : List ℕ) (v : Value) (x : ItemFields) (found : Bool) → has_tag tag (identifier_of v) ≡ found → item_with tag v ≡ Some x → HasItem tag v x
with_found tag v x true t e = let w : Some (item v) ≡ Some x = rw t at e in record { tagged = t; is = cc }
with_found tag v x false t e = let w : None ≡ Some x = rw t at e in absurd cc

pub has_item : (tag : List ℕ) (v : Value) (x : ItemFields) → item_with tag v ≡ Some x → HasItem tag v x
has_item tag v x e = with_found tag v x (has_tag tag (identifier_of v)) refl e

-- a value with this tag stands next, and its level isn't at its end
pub item_next : (c : ℕ) (tag : List ℕ) (p q : Position) (b a : ℕ) (y : ItemFields) → CountedOne c (item_with tag) p q b a y → Next tag p true
item_next c tag p q b a y t v rest h =
    let s = at_most_one p.mode p.here v t.takes.value rest q.here h t.takes.begins in
    ap (λ (w : Value). has_tag tag (identifier_of w)) s.value ∙ (has_item tag t.takes.value y t.takes.reads).tagged

pub item_more : (c : ℕ) (tag : List ℕ) (p q : Position) (b a : ℕ) (y : ItemFields) → CountedOne c (item_with tag) p q b a y → AtEnd p → ⊥
item_more c tag p q b a y t s = ends_no_value p.mode (top p.levels) p.here s.0 s.1 t.takes.value q.here t.takes.begins

pub takes_optional : {X : Type 0} (c : ℕ) (tag : List ℕ) (field : Value → Option X) (convert : ItemFields → Option X) (p q : Position) (b a : ℕ) (y : ItemFields) (x : X) → Converts tag field convert → CountedOne c (item_with tag) p q b a y → convert y ≡ Some x → CountedFields c 1 (optional tag field) p q b a (Some x)
takes_optional c tag field convert p q b a y x is t e =
    let h = has_item tag t.takes.value y t.takes.reads in
    counting.takes_optional c tag field p q b a x (item_next c tag p q b a y t) (record {
      takes = record {
        value = t.takes.value;
        begins = t.takes.begins;
        reads = is.is t.takes.value h.tagged ∙ ap convert h.is ∙ e;
        levels = t.takes.levels;
        mode = t.takes.mode;
      };
      least = t.least;
      most = t.most;
    })

pub refuses_converted : {X : Type 0} (c : ℕ) (tag : List ℕ) (field : Value → Option X) (convert : ItemFields → Option X) (p q : Position) (b a : ℕ) (y : ItemFields) → Converts tag field convert → CountedOne c (item_with tag) p q b a y → convert y ≡ None → CountedRefusesFields c 1 (optional tag field) p b a Malformed
unfolding Refuses
refuses_converted c tag field convert p q b a y is t e =
    let h = has_item tag t.takes.value y t.takes.reads in
    let reads : field t.takes.value ≡ None = is.is t.takes.value h.tagged ∙ ap convert h.is ∙ e in
    counting.refuses_optional c tag field p b a Malformed (item_next c tag p q b a y t) (item_more c tag p q b a y t) (record {
      refuses = λ v rest k. ap field (at_most_one p.mode p.here v t.takes.value rest q.here k t.takes.begins).value ∙ reads;
      least = omega (arith, t.least);
      most = let w : a + c * left q ≤ b + c * left p = t.most in omega (arith, w);
    })

refused_all : {X : Type 0} (tag : List ℕ) (field : Value → Option X) (p : Position) → (AtEnd p → ⊥) → NoValue p.mode p.here → (all : Values) (rest : List ℕ) → LevelHolds p.mode (top p.levels) p.here all rest → optional tag field all ≡ None
refused_all tag field p more none End rest h = absurd (more (rest, end_holds p.mode (top p.levels) p.here rest h))
refused_all tag field p more none (v ▸ vs) rest h = let m = holds_more p.mode (top p.levels) p.here v vs rest h in absurd (none v m.here' m.begins)

pub refuses_optional_field : {X : Type 0} (c : ℕ) (tag : List ℕ) (field : Value → Option X) (p : Position) (b a : ℕ) (e : DecodeError) → CountedRefusesOptional c tag p b a e → CountedRefusesFields c 1 (optional tag field) p b a e
unfolding RefusesOptional RefusesFields
refuses_optional_field c tag field p b a Malformed n = record { refuses = refused_all tag field p (λ e. n.refuses.0 (inl e)) n.refuses.1; least = n.least; most = omega (arith, n.most) }
refuses_optional_field c tag field p b a OutOfMemory n = record { refuses = tt; least = n.least; most = omega (arith, n.most) }

-- ---- the value that stands next, whatever follows it

absent_once : (tag : List ℕ) (p : Position) (b a : ℕ) → CountedAbsent tag p b a → Absent tag p
absent_once tag p b a (inl e) = inl e.0
absent_once tag p b a (inr o) = inr o.0

pub absent_as : (tag : List ℕ) (p q : Position) (b a : ℕ) → CountedAbsent tag p b a × (q ≡ p) → Absent tag p × (q ≡ p)
absent_as tag p q b a w = (absent_once tag p b a w.0, w.1)

pub takes_as : {X : Type 0} (c : ℕ) (tag : List ℕ) (field : Value → Option X) (convert : ItemFields → Option X) (p q : Position) (b a : ℕ) (y : ItemFields) (x : X) → Converts tag field convert → CountedOne c (item_with tag) p q b a y → convert y ≡ Some x → TakesOne field p q x
takes_as c tag field convert p q b a y x is t e =
    let h = has_item tag t.takes.value y t.takes.reads in
    record { value = t.takes.value; begins = t.takes.begins; reads = is.is t.takes.value h.tagged ∙ ap convert h.is ∙ e; levels = t.takes.levels; mode = t.takes.mode }

item_present : (c : ℕ) (tag : List ℕ) (p q : Position) (b a : ℕ) (y : ItemFields) → CountedOne c (item_with tag) p q b a y → Absent tag p → ⊥
item_present c tag p q b a y t (inl e) = item_more c tag p q b a y t e
item_present c tag p q b a y t (inr o) =
    let tagged = (has_item tag t.takes.value y t.takes.reads).tagged in
    let e : true ≡ false = sym tagged ∙ next_tagged tag p.mode p.here o.0 o.1 t.takes.value q.here o.2 t.takes.begins ∙ o.3 in cc

pub refuses_as : {X : Type 0} (c : ℕ) (tag : List ℕ) (field : Value → Option X) (convert : ItemFields → Option X) (p q : Position) (b a : ℕ) (y : ItemFields) → Converts tag field convert → CountedOne c (item_with tag) p q b a y → convert y ≡ None → RefusesOptionalAs tag field p Malformed
unfolding RefusesOptionalAs
refuses_as c tag field convert p q b a y is t e =
    let h = has_item tag t.takes.value y t.takes.reads in
    let reads : field t.takes.value ≡ None = is.is t.takes.value h.tagged ∙ ap convert h.is ∙ e in
    (item_present c tag p q b a y t, λ v rest k. ap field (at_most_one p.mode p.here v t.takes.value rest q.here k t.takes.begins).value ∙ reads)

pub refuses_field_as : {X : Type 0} (c : ℕ) (tag : List ℕ) (field : Value → Option X) (p : Position) (b a : ℕ) (e : DecodeError) → CountedRefusesOptional c tag p b a e → RefusesOptionalAs tag field p e
unfolding RefusesOptional RefusesOptionalAs
refuses_field_as c tag field p b a Malformed n = (n.refuses.0, λ v rest k. absurd (n.refuses.1 v rest k))
refuses_field_as c tag field p b a OutOfMemory n = n.refuses

pub optional_as_err : {X Y : Type 0} (tag : List ℕ) (field : Value → Option X) (view : Y → Option X) (p q : Position) (error : DecodeError) (r : Result Y DecodeError) → IsErrAnd r (λ e. e ≡ error) → RefusesOptionalAs tag field p error → TakesOptionalAs tag field view p q r
optional_as_err tag field view p q error (Ok y) h n = absurd h
optional_as_err tag field view p q error (Err e) h n = subst (RefusesOptionalAs tag field p) (sym h) n
