-- Going through the levels of one value.
use Rattle.std.proofs.Common.{◌≡◌, ℕ, ◌+◌, ◌<◌, List, [], ◌∷◌, ◌++◌, length, drop, refl, sym, ap, subst, ◌∙◌, append_assoc, arith, length-append}
use Rattle.rpki_der.specs.declared.mode.Mode.{Mode}
use Rattle.rpki_der.specs.declared.mode.Mode.TheVariants.{Ber, Der}
use Rattle.rpki_der.specs.Identifier.{IsIdentifier}
use Rattle.rpki_der.specs.Lengths.{IsLength}
use Rattle.rpki_der.specs.Value.{Form, Definite, Indefinite, Value, Primitive, Constructed, Values, End, ◌▸◌, end_mark, spelling, spellings, Begins}
use Rattle.rpki_der.specs.Level.{mark_of, Level, Sized, Marked, LevelHolds, EndsLevel, Opens}
use Rattle.rpki_der.specs.Part.{NoValue}
use Rattle.rpki_der.specs.Walk.{Completes, OneFirst, Descends, left_in}
use Rattle.rpki_der.proofs.Uniqueness.{same_cut, same_identifier, same_length, not_indefinite, three_parts, four_parts, begins_no_end, mixed, IsEnd, tail_of}
use Rattle.rpki_der.proofs.Parts.{at_most_one}

-- ---- one level

pub holds_cons : (mode : Mode) (level : Level) (here here' : List ℕ) (v : Value) (vs : Values) (next : List ℕ) → Begins mode here v here' → LevelHolds mode level here' vs next → LevelHolds mode level here (v ▸ vs) next
holds_cons mode (Sized after) here here' v vs next b h = ((b.lawful, h.0), b.parts ∙ ap (λ r. spelling v ++ r) h.1, h.2)
holds_cons mode Marked here here' v vs next b h =
    ((b.lawful, h.0), b.parts ∙ ap (λ r. spelling v ++ r) h.1 ∙ sym (append_assoc (spelling v) (spellings vs) (0 ∷ 0 ∷ next)))

pub record HoldsMore (mode : Mode) (level : Level) (here : List ℕ) (v : Value) (vs : Values) (next : List ℕ) : Type 0 where
  pub here' : List ℕ
  pub begins : Begins mode here v here'
  pub holds : LevelHolds mode level here' vs next

pub holds_more : (mode : Mode) (level : Level) (here : List ℕ) (v : Value) (vs : Values) (next : List ℕ) → LevelHolds mode level here (v ▸ vs) next → HoldsMore mode level here v vs next
holds_more mode (Sized after) here v vs next h = record {
  here' = spellings vs;
  begins = record { lawful = h.0.0; parts = h.1 };
  holds = (h.0.1, refl, h.2);
}
holds_more mode Marked here v vs next h = record {
  here' = spellings vs ++ (0 ∷ 0 ∷ next);
  begins = record { lawful = h.0.0; parts = h.1 ∙ append_assoc (spelling v) (spellings vs) (0 ∷ 0 ∷ next) };
  holds = (h.0.1, refl);
}

pub holds_end : (mode : Mode) (level : Level) (here next : List ℕ) → EndsLevel level here next → LevelHolds mode level here End next
holds_end mode (Sized after) here next e = (tt, e.0, e.1)
holds_end mode Marked here next e = (tt, e)

pub end_holds : (mode : Mode) (level : Level) (here next : List ℕ) → LevelHolds mode level here End next → EndsLevel level here next
end_holds mode (Sized after) here next h = (h.1, h.2)
end_holds mode Marked here next h = h.1

pub ends_is_end : (level : Level) (here next : List ℕ) → EndsLevel level here next → IsEnd here
ends_is_end (Sized after) here next e = rw e.0 tt
ends_is_end Marked here next e = rw e refl

pub ends_no_value : (mode : Mode) (level : Level) (here next : List ℕ) → EndsLevel level here next → NoValue mode here
ends_no_value mode level here next e v rest b = begins_no_end mode v rest b.lawful (subst IsEnd b.parts (ends_is_end level here next e))

pub ends_once : (level : Level) (here x y : List ℕ) → EndsLevel level here x → EndsLevel level here y → x ≡ y
ends_once (Sized after) here x y p q = sym p.1 ∙ q.1
ends_once Marked here x y p q = tail_of 0 0 x y (tail_of 0 0 _ _ (sym p ∙ q))

-- ---- into a constructed value

pub record Back (mode : Mode) (here identifier : List ℕ) (level : Level) (vs : Values) (next : List ℕ) : Type 0 where
  pub form : Form
  pub fits : end_mark form ≡ mark_of level
  pub begins : Begins mode here (Constructed identifier form vs) next

pub opens_back : (mode : Mode) (here i : List ℕ) (level : Level) (inner : List ℕ) (vs : Values) (next : List ℕ) → Opens mode here i level inner → LevelHolds mode level inner vs next → Back mode here i level vs next
opens_back mode here i (Sized after) inner vs next o h = record {
  form = Definite o.2;
  fits = refl;
  begins = record {
    lawful = (o.0, o.1, subst (λ t. IsLength mode o.2 (length t)) h.1 o.3, h.0);
    parts = o.4 ∙ ap (λ t. i ++ (o.2 ++ (t ++ after))) h.1 ∙ ap (λ t. i ++ (o.2 ++ (spellings vs ++ t))) h.2 ∙ sym (four_parts i o.2 (spellings vs) [] next);
  };
}
opens_back Ber here i Marked inner vs next o h = record {
  form = Indefinite;
  fits = refl;
  begins = record {
    lawful = (o.0, o.1, tt, h.0);
    parts = o.3 ∙ ap (λ t. i ++ (128 ∷ t)) h.1 ∙ sym (four_parts i (128 ∷ []) (spellings vs) (0 ∷ 0 ∷ []) next);
  };
}
opens_back Der here i Marked inner vs next o h = let no : Der ≡ Ber = o.2 in absurd cc

-- what a value is that stands where a constructed one opens
pub record Inside (mode : Mode) (level : Level) (inner identifier : List ℕ) (v : Value) (next : List ℕ) : Type 0 where
  pub form : Form
  pub fits : end_mark form ≡ mark_of level
  pub values : Values
  pub is : v ≡ Constructed identifier form values
  pub holds : LevelHolds mode level inner values next

pub opens_forth : (mode : Mode) (here i : List ℕ) (level : Level) (inner : List ℕ) (v : Value) (next : List ℕ) → Opens mode here i level inner → Begins mode here v next → Inside mode level inner i v next
opens_forth mode here i (Sized after) inner (Primitive j m d) next o b = absurd (mixed j i _ _ b.lawful.0 o.0 b.lawful.1 o.1 (sym (b.parts ∙ three_parts j m d next) ∙ o.4))
opens_forth mode here i Marked inner (Primitive j m d) next o b = absurd (mixed j i _ _ b.lawful.0 o.0 b.lawful.1 o.1 (sym (b.parts ∙ three_parts j m d next) ∙ o.3))
opens_forth mode here i (Sized after) inner (Constructed j (Definite m) vs) next o b =
    let s = same_identifier i j _ _ o.0 b.lawful.0 (sym o.4 ∙ b.parts ∙ four_parts j m (spellings vs) [] next) in
    let t = same_length mode o.2 m _ _ _ _ o.3 b.lawful.2 s.rest in
    let u = same_cut inner (spellings vs) after next t.count t.cut.rest in
    record { form = Definite m; fits = refl; values = vs; is = ap (λ k. Constructed k (Definite m) vs) (sym s.front); holds = (b.lawful.3, u.front, u.rest) }
opens_forth mode here i (Sized after) inner (Constructed j Indefinite vs) next o b =
    let s = same_identifier i j _ _ o.0 b.lawful.0 (sym o.4 ∙ b.parts ∙ four_parts j (128 ∷ []) (spellings vs) (0 ∷ 0 ∷ []) next) in
    absurd (not_indefinite mode o.2 _ _ _ o.3 s.rest)
opens_forth mode here i Marked inner (Constructed j (Definite m) vs) next o b =
    let s = same_identifier j i _ _ b.lawful.0 o.0 (sym (b.parts ∙ four_parts j m (spellings vs) [] next) ∙ o.3) in
    absurd (not_indefinite mode m _ _ _ b.lawful.2 s.rest)
opens_forth mode here i Marked inner (Constructed j Indefinite vs) next o b =
    let s = same_identifier i j _ _ o.0 b.lawful.0 (sym o.3 ∙ b.parts ∙ four_parts j (128 ∷ []) (spellings vs) (0 ∷ 0 ∷ []) next) in
    record { form = Indefinite; fits = refl; values = vs; is = ap (λ k. Constructed k Indefinite vs) (sym s.front); holds = (b.lawful.3, tail_of 128 128 _ _ s.rest) }

-- ---- all levels

pub descends_over : (mode : Mode) (here : List ℕ) (v : Value) (rest : List ℕ) (levels : List Level) → Begins mode here v rest → Descends mode here levels rest levels
descends_over mode here v rest levels b = record {
  forth = λ final p. subst (λ (r : List ℕ). Completes mode r levels final) (sym (at_most_one mode here v p.0 rest p.1 b p.2).rest) p.3;
  back = λ final k. (v, rest, b, k);
}

pub descends_into : (mode : Mode) (here i : List ℕ) (level : Level) (inner : List ℕ) (levels : List Level) → Opens mode here i level inner → Descends mode here levels inner (level ∷ levels)
descends_into mode here i level inner levels o = record {
  forth = λ final p. let w = opens_forth mode here i level inner p.0 p.1 o p.2 in (w.values, p.1, w.holds, p.3);
  back = λ final k. let w = opens_back mode here i level inner k.0 k.1 o k.2 in (Constructed i w.form k.0, k.1, w.begins, k.3);
}

pub descends_push : (mode : Mode) (here i inner : List ℕ) (opened opened' : List Level) (level : Level) → Opens mode here i level inner → opened' ≡ level ∷ opened → Descends mode here opened inner opened'
descends_push mode here i inner opened opened' level o e =
    subst (λ (ls : List Level). Descends mode here opened inner ls) (sym e) (descends_into mode here i level inner opened o)

not_empty : (i : List ℕ) → IsIdentifier i → 0 < length i
not_empty [] p = absurd p
not_empty (a ∷ i) p = omega arith

some_lengths : (mode : Mode) (l : List ℕ) (n : ℕ) → IsLength mode l n → 0 < length l
some_lengths mode [] n p = absurd p
some_lengths mode (a ∷ l) n p = omega arith

pub smaller_over : (mode : Mode) (here : List ℕ) (v : Value) (rest : List ℕ) → Begins mode here v rest → length rest < length here
smaller_over mode here (Primitive i l c) rest b = omega (arith, not_empty i b.lawful.0, simp length-append at (ap length b.parts))
smaller_over mode here (Constructed i f vs) rest b = omega (arith, not_empty i b.lawful.0, simp length-append at (ap length b.parts))

pub smaller_into : (mode : Mode) (here i : List ℕ) (level : Level) (inner : List ℕ) (levels : List Level) → Opens mode here i level inner → length inner + left_in (level ∷ levels) < length here + left_in levels
smaller_into mode here i (Sized after) inner levels o = omega (arith, not_empty i o.0, some_lengths mode o.2 (length inner) o.3, simp length-append at (ap length o.4))
smaller_into mode here i Marked inner levels o = omega (arith, not_empty i o.0, simp length-append at (ap length o.3))

pub smaller_push : (mode : Mode) (here i inner : List ℕ) (opened opened' : List Level) (level : Level) → Opens mode here i level inner → opened' ≡ level ∷ opened → length inner + left_in opened' < length here + left_in opened
smaller_push mode here i inner opened opened' level o e =
    subst (λ (ls : List Level). length inner + left_in ls < length here + left_in opened) (sym e) (smaller_into mode here i level inner opened o)

-- where the level ends, it holds no value
pub at_end : (mode : Mode) (level : Level) (here rest : List ℕ) (vs : Values) (next : List ℕ) → EndsLevel level here rest → LevelHolds mode level here vs next → rest ≡ next
at_end mode level here rest End next e h = ends_once level here rest next e (end_holds mode level here next h)
at_end mode level here rest (v ▸ vs) next e h = let m = holds_more mode level here v vs next h in absurd (ends_no_value mode level here rest e v m.here' m.begins)

-- elsewhere it holds a first value
pub first_of : (mode : Mode) (level : Level) (levels : List Level) (here : List ℕ) (final : List ℕ) → ((rest : List ℕ) → EndsLevel level here rest → ⊥) → Completes mode here (level ∷ levels) final → OneFirst mode here (level ∷ levels) final
first_of mode level levels here final none (End, next, h, k) = absurd (none next (end_holds mode level here next h))
first_of mode level levels here final none (v ▸ vs, next, h, k) = let m = holds_more mode level here v vs next h in (v, m.here', m.begins, (vs, next, m.holds, k))

-- the levels that are completed from octets on are those that are completed from here on
abbrev pub LeadsTo : Mode → List ℕ → List Level → List ℕ → List Level → Type 0
LeadsTo mode octets base here levels = (final : List ℕ) → Completes mode octets base final → Completes mode here levels final

pub ended : (mode : Mode) (octets : List ℕ) (base : List Level) (level : Level) (levels : List Level) (here rest : List ℕ) → LeadsTo mode octets base here (level ∷ levels) → EndsLevel level here rest → LeadsTo mode octets base rest levels
ended mode octets base level levels here rest d e = λ final p.
    let k = d final p in subst (λ (r : List ℕ). Completes mode r levels final) (sym (at_end mode level here rest k.0 k.1 e k.2)) k.3

pub went_on : (mode : Mode) (octets : List ℕ) (base : List Level) (level : Level) (levels : List Level) (here new : List ℕ) (news : List Level) → LeadsTo mode octets base here (level ∷ levels) → ((rest : List ℕ) → EndsLevel level here rest → ⊥) → Descends mode here (level ∷ levels) new news → LeadsTo mode octets base new news
went_on mode octets base level levels here new news d none g = λ final p. g.forth final (first_of mode level levels here final none (d final p))

pub refused : (mode : Mode) (octets : List ℕ) (base : List Level) (level : Level) (levels : List Level) (here : List ℕ) → LeadsTo mode octets base here (level ∷ levels) → ((rest : List ℕ) → EndsLevel level here rest → ⊥) → NoValue mode here → (final : List ℕ) → Completes mode octets base final → ⊥
refused mode octets base level levels here d none empty final p = let o = first_of mode level levels here final none (d final p) in empty o.0 o.1 o.2

-- where the levels behind the first header can't be completed, no value stands
pub none_first : (mode : Mode) (octets here : List ℕ) (levels : List Level) → Descends mode octets [] here levels → ((final : List ℕ) → Completes mode here levels final → ⊥) → NoValue mode octets
none_first mode octets here levels d none v rest b = none rest (d.forth rest (v, rest, b, refl))

pub smaller_end : (level : Level) (levels : List Level) (here rest : List ℕ) → EndsLevel level here rest → length rest + left_in levels < length here + left_in (level ∷ levels)
smaller_end (Sized after) levels here rest e = let a = ap length e.0 in let b = ap length e.1 in omega arith
smaller_end Marked levels here rest e = let a = ap length e in omega arith

-- ---- walks on the levels of the code

pub ended_last : (mode : Mode) (octets : List ℕ) (base opened : List Level) (level : Level) (here rest : List ℕ) → opened ≡ level ∷ drop 1 opened → LeadsTo mode octets base here opened → EndsLevel level here rest → LeadsTo mode octets base rest (drop 1 opened)
ended_last mode octets base opened level here rest e d h =
    ended mode octets base level (drop 1 opened) here rest (subst (λ (ls : List Level). LeadsTo mode octets base here ls) e d) h

pub smaller_end_last : (opened : List Level) (level : Level) (here rest : List ℕ) → opened ≡ level ∷ drop 1 opened → EndsLevel level here rest → length rest + left_in (drop 1 opened) < length here + left_in opened
smaller_end_last opened level here rest e h =
    subst (λ (ls : List Level). length rest + left_in (drop 1 opened) < length here + left_in ls) (sym e) (smaller_end level (drop 1 opened) here rest h)

pub went_on_last : (mode : Mode) (octets : List ℕ) (base opened : List Level) (level : Level) (here new : List ℕ) (news : List Level) → opened ≡ level ∷ drop 1 opened → LeadsTo mode octets base here opened → ((rest : List ℕ) → EndsLevel level here rest → ⊥) → Descends mode here opened new news → LeadsTo mode octets base new news
went_on_last mode octets base opened level here new news e d none g =
    went_on mode octets base level (drop 1 opened) here new news (subst (λ (ls : List Level). LeadsTo mode octets base here ls) e d) none (subst (λ (ls : List Level). Descends mode here ls new news) e g)

pub refused_last : (mode : Mode) (octets : List ℕ) (base opened : List Level) (level : Level) (here : List ℕ) → opened ≡ level ∷ drop 1 opened → LeadsTo mode octets base here opened → ((rest : List ℕ) → EndsLevel level here rest → ⊥) → NoValue mode here → (final : List ℕ) → Completes mode octets base final → ⊥
refused_last mode octets base opened level here e d none empty =
    refused mode octets base level (drop 1 opened) here (subst (λ (ls : List Level). LeadsTo mode octets base here ls) e d) none empty
