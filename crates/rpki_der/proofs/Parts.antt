-- What one header says of the value that stands there.
use Rattle.std.proofs.Common.{◌≡◌, ℕ, ◌<◌, ◌≤◌, true, false, List, [], ◌∷◌, ◌++◌, length, take, drop, refl, sym, ap, subst, ◌∙◌, arith, length-append}
use Rattle.std.proofs.lemmas.List.{take-append-drop, append_cancel_left, length-take-le}
use Rattle.rpki_der.specs.declared.header.Length.{Length}
use Rattle.rpki_der.specs.declared.header.Length.TheVariants as length_is
use Rattle.rpki_der.specs.declared.mode.Mode.{Mode}
use Rattle.rpki_der.specs.declared.mode.Mode.TheVariants.{Ber, Der}
use Rattle.rpki_der.specs.Identifier.{is_constructed}
use Rattle.rpki_der.specs.Lengths.{IsLength}
use Rattle.rpki_der.specs.Header.{NoIdentifier, HeaderFirst, NoHeader}
use Rattle.rpki_der.specs.Value.{Definite, Indefinite, Value, Primitive, Constructed, End, spellings, Begins}
use Rattle.rpki_der.specs.Level.{Level, Sized, Marked, Opens}
use Rattle.rpki_der.specs.Part.{NoPart}
use Rattle.rpki_der.proofs.Uniqueness.{same_identifier, same_length, not_indefinite, three_parts, four_parts, SameValue, same_value}

-- the law, on what begins octets
pub at_most_one : (mode : Mode) (octets : List ℕ) (v w : Value) (x y : List ℕ) → Begins mode octets v x → Begins mode octets w y → SameValue v w x y
at_most_one mode octets v w x y p q = same_value mode v w x y p.lawful q.lawful (sym p.parts ∙ q.parts)

-- the header of a value that stands here, and how far the value goes
pub record HasHeader (mode : Mode) (here : List ℕ) (v : Value) : Type 0 where
  pub identifier : List ℕ
  pub length' : Length
  pub rest : List ℕ
  pub first : HeaderFirst mode here identifier length' rest
  pub within : (n : ℕ) → length' ≡ length_is.Definite n → n ≤ length rest
  pub marked : length' ≡ length_is.Indefinite → is_constructed identifier ≡ true

definite_is : (m n : ℕ) → length_is.Definite m ≡ length_is.Definite n → m ≡ n
definite_is m n e = cc

not_definite : (n : ℕ) → length_is.Indefinite ≡ length_is.Definite n → ⊥
not_definite n e = cc

pub has_header : (mode : Mode) (here : List ℕ) (v : Value) (next : List ℕ) → Begins mode here v next → HasHeader mode here v
has_header mode here (Primitive i l c) next b = record {
  identifier = i;
  length' = length_is.Definite (length c);
  rest = c ++ next;
  first = record { lengths = l; is_identifier = b.lawful.0; says = b.lawful.2; parts = b.parts ∙ three_parts i l c next };
  within = λ n e. let k = definite_is (length c) n e in omega (arith, length-append c next);
  marked = λ e. absurd (not_definite (length c) (sym e));
}
has_header mode here (Constructed i (Definite l) vs) next b = record {
  identifier = i;
  length' = length_is.Definite (length (spellings vs));
  rest = spellings vs ++ next;
  first = record { lengths = l; is_identifier = b.lawful.0; says = b.lawful.2; parts = b.parts ∙ four_parts i l (spellings vs) [] next };
  within = λ n e. let k = definite_is (length (spellings vs)) n e in omega (arith, length-append (spellings vs) next);
  marked = λ e. absurd (not_definite (length (spellings vs)) (sym e));
}
has_header Ber here (Constructed i Indefinite vs) next b = record {
  identifier = i;
  length' = length_is.Indefinite;
  rest = spellings vs ++ (0 ∷ 0 ∷ next);
  first = record { lengths = 128 ∷ []; is_identifier = b.lawful.0; says = (refl, refl); parts = b.parts ∙ four_parts i (128 ∷ []) (spellings vs) (0 ∷ 0 ∷ []) next };
  within = λ n e. absurd (not_definite n e);
  marked = λ e. b.lawful.1;
}
has_header Der here (Constructed i Indefinite vs) next b = absurd b.lawful.2

-- the header of a constructed value that only opens here
pub opens_header : (mode : Mode) (here i : List ℕ) (level : Level) (inner : List ℕ) → Opens mode here i level inner → HasHeader mode here (Constructed i Indefinite End)
opens_header mode here i (Sized after) inner o = record {
  identifier = i;
  length' = length_is.Definite (length inner);
  rest = inner ++ after;
  first = record { lengths = o.2; is_identifier = o.0; says = o.3; parts = o.4 };
  within = λ n e. let k = definite_is (length inner) n e in omega (arith, length-append inner after);
  marked = λ e. absurd (not_definite (length inner) (sym e));
}
opens_header mode here i Marked inner o = record {
  identifier = i;
  length' = length_is.Indefinite;
  rest = inner;
  first = record { lengths = 128 ∷ []; is_identifier = o.0; says = (o.2, refl); parts = o.3 };
  within = λ n e. absurd (not_definite n e);
  marked = λ e. o.1;
}

pub record SameHeader (i j : List ℕ) (m n : Length) (x y : List ℕ) : Type 0 where
  pub identifier : i ≡ j
  pub length' : m ≡ n
  pub rest : x ≡ y

pub same_header : (mode : Mode) (here i j : List ℕ) (m n : Length) (x y : List ℕ) → HeaderFirst mode here i m x → HeaderFirst mode here j n y → SameHeader i j m n x y
same_header mode here i j (length_is.Definite m) (length_is.Definite n) x y p q =
    let s = same_identifier i j _ _ p.is_identifier q.is_identifier (sym p.parts ∙ q.parts) in
    let t = same_length mode p.lengths q.lengths _ _ m n p.says q.says s.rest in
    record { identifier = s.front; length' = ap length_is.Definite t.count; rest = t.cut.rest }
same_header mode here i j (length_is.Definite m) length_is.Indefinite x y p q =
    let s = same_identifier i j _ _ p.is_identifier q.is_identifier (sym p.parts ∙ q.parts) in
    absurd (not_indefinite mode p.lengths x y m p.says (s.rest ∙ ap (λ l. l ++ y) q.says.1))
same_header mode here i j length_is.Indefinite (length_is.Definite n) x y p q =
    let s = same_identifier j i _ _ q.is_identifier p.is_identifier (sym q.parts ∙ p.parts) in
    absurd (not_indefinite mode q.lengths y x n q.says (s.rest ∙ ap (λ l. l ++ x) p.says.1))
same_header mode here i j length_is.Indefinite length_is.Indefinite x y p q =
    let s = same_identifier i j _ _ p.is_identifier q.is_identifier (sym p.parts ∙ q.parts) in
    record { identifier = s.front; length' = refl; rest = append_cancel_left (128 ∷ []) x y (sym (ap (λ l. l ++ x) p.says.1) ∙ s.rest ∙ ap (λ l. l ++ y) q.says.1) }

-- the refusals
no_part : (mode : Mode) (here : List ℕ) → ((v : Value) → HasHeader mode here v → ⊥) → NoPart mode here
no_part mode here none = record {
  no_value = λ v next b. none v (has_header mode here v next b);
  no_header = λ i level inner o. none (Constructed i Indefinite End) (opens_header mode here i level inner o);
}

pub no_part_header : (mode : Mode) (here : List ℕ) → NoHeader mode here → NoPart mode here
no_part_header mode here none = no_part mode here (λ v h. none h.identifier h.length' h.rest h.first)

pub no_part_identifier : (mode : Mode) (here : List ℕ) → NoIdentifier here → NoPart mode here
no_part_identifier mode here none = no_part mode here (λ v h. none h.identifier (h.first.lengths ++ h.rest) (record { is_identifier = h.first.is_identifier; parts = h.first.parts }))

pub no_part_long : (mode : Mode) (here i : List ℕ) (n : ℕ) (rest : List ℕ) → HeaderFirst mode here i (length_is.Definite n) rest → length rest < n → NoPart mode here
no_part_long mode here i n rest h lt = no_part mode here (λ v g.
    let s = same_header mode here i g.identifier (length_is.Definite n) g.length' rest g.rest h g.first in
    let le : n ≤ length g.rest = g.within n (sym s.length') in
    let same : length rest ≡ length g.rest = ap length s.rest in
    omega arith)

pub no_part_marked : (mode : Mode) (here i rest : List ℕ) → HeaderFirst mode here i length_is.Indefinite rest → is_constructed i ≡ false → NoPart mode here
no_part_marked mode here i rest h f = no_part mode here (λ v g.
    let s = same_header mode here i g.identifier length_is.Indefinite g.length' rest g.rest h g.first in
    let t : is_constructed g.identifier ≡ true = g.marked (sym s.length') in
    let u : is_constructed i ≡ is_constructed g.identifier = ap is_constructed s.identifier in
    let no : false ≡ true = sym f ∙ u ∙ t in cc)

-- what the code finds
pub primitive_found : (mode : Mode) (here i content rest after : List ℕ) (n : ℕ) → HeaderFirst mode here i (length_is.Definite n) rest → is_constructed i ≡ false → n ≤ length rest → content ≡ take n rest → after ≡ drop n rest → (lengths : List ℕ) × Begins mode here (Primitive i lengths content) after
primitive_found mode here i content rest after n h f le c a =
    let len : n ≡ length content = sym (ap length c ∙ length-take-le n rest le) in
    let cut : rest ≡ content ++ after = sym (rw (c, a) (take-append-drop n rest)) in (
      h.lengths,
      record {
        lawful = (h.is_identifier, f, subst (IsLength mode h.lengths) len h.says);
        parts = h.parts ∙ ap (λ r. i ++ (h.lengths ++ r)) cut ∙ sym (three_parts i h.lengths content after);
      },
    )

pub sized_found : (mode : Mode) (here i inner rest after : List ℕ) (n : ℕ) → HeaderFirst mode here i (length_is.Definite n) rest → is_constructed i ≡ true → n ≤ length rest → inner ≡ take n rest → after ≡ drop n rest → Opens mode here i (Sized after) inner
sized_found mode here i inner rest after n h t le c a =
    let len : n ≡ length inner = sym (ap length c ∙ length-take-le n rest le) in
    let cut : rest ≡ inner ++ after = sym (rw (c, a) (take-append-drop n rest)) in
    (h.is_identifier, t, h.lengths, subst (IsLength mode h.lengths) len h.says, h.parts ∙ ap (λ r. i ++ (h.lengths ++ r)) cut)

pub marked_found : (mode : Mode) (here i rest : List ℕ) → HeaderFirst mode here i length_is.Indefinite rest → is_constructed i ≡ true → Opens mode here i Marked rest
marked_found mode here i rest h t = (h.is_identifier, t, h.says.0, h.parts ∙ ap (λ l. i ++ (l ++ rest)) h.says.1)
