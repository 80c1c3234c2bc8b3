-- What one call of a cursor says of the values that stand there.
use Rattle.std.proofs.Common.{◌≡◌, ℕ, ◌-◌, true, false, Option, None, Some, List, [], ◌∷◌, ◌++◌, length, take, drop, refl, sym, ap, subst, ◌∙◌, arith, length-append}
use Rattle.std.proofs.lemmas.List.{take_at}
use Rattle.rpki_der.specs.declared.header.Length.{Length}
use Rattle.rpki_der.specs.declared.header.Length.TheVariants as length_is
use Rattle.rpki_der.specs.declared.mode.Mode.{Mode}
use Rattle.rpki_der.specs.Value.{Value, Primitive, Constructed, spelling, Begins}
use Rattle.rpki_der.specs.Level.{Level, Sized, Marked, EndsLevel, Opens}
use Rattle.rpki_der.specs.Header.{HeaderFirst}
use Rattle.rpki_der.specs.Part.{NoValue, NoPart}
use Rattle.rpki_der.specs.Position.{Position, top}
use Rattle.rpki_der.specs.Identifier.{has_tag}
use Rattle.rpki_der.specs.Grammar.{primitive, any}
use Rattle.rpki_der.specs.Takes.{TakesOne, NoneStands, NoneOpens}
use Rattle.rpki_der.proofs.Parts.{at_most_one, same_header}
use Rattle.rpki_der.proofs.Walks.{opens_forth}
use Rattle.std.specs.Prelude.{IfNone}
use Rattle.std.proofs.Common.{Bor}

-- ---- the header of a constructed value

-- a primitive value and a constructed one don't begin at one place
pub primitive_apart : (mode : Mode) (here i l c rest j : List ℕ) (level : Level) (inner : List ℕ) → Begins mode here (Primitive i l c) rest → Opens mode here j level inner → ⊥
primitive_apart mode here i l c rest j level inner b o =
    let w = opens_forth mode here j level inner (Primitive i l c) rest o b in
    let e : Primitive i l c ≡ Constructed j w.form w.values = w.is in cc

pub record First (mode : Mode) (here i : List ℕ) : Type 0 where
  pub length' : Length
  pub rest : List ℕ
  pub header : HeaderFirst mode here i length' rest

pub opens_first : (mode : Mode) (here i : List ℕ) (level : Level) (inner : List ℕ) → Opens mode here i level inner → First mode here i
opens_first mode here i (Sized after) inner o = record {
  length' = length_is.Definite (length inner);
  rest = inner ++ after;
  header = record { lengths = o.2; is_identifier = o.0; says = o.3; parts = o.4 };
}
opens_first mode here i Marked inner o = record {
  length' = length_is.Indefinite;
  rest = inner;
  header = record { lengths = 128 ∷ []; is_identifier = o.0; says = (o.2, refl); parts = o.3 };
}

pub opens_once : (mode : Mode) (here i j : List ℕ) (level level' : Level) (inner inner' : List ℕ) → Opens mode here i level inner → Opens mode here j level' inner' → i ≡ j
opens_once mode here i j level level' inner inner' p q =
    let g = opens_first mode here i level inner p in
    let h = opens_first mode here j level' inner' q in
    (same_header mode here i j g.length' h.length' g.rest h.rest g.header h.header).identifier

-- ---- `enter`

pub none_opens : (p : Position) (tag : List ℕ) → NoPart p.mode p.here → NoneOpens tag p
none_opens p tag n i level inner o = absurd (n.no_header i level inner o)

pub none_opens_primitive : (p : Position) (tag : List ℕ) (i l c rest : List ℕ) → Begins p.mode p.here (Primitive i l c) rest → NoneOpens tag p
none_opens_primitive p tag i l c rest b j level inner o = absurd (primitive_apart p.mode p.here i l c rest j level inner b o)

pub none_opens_other : (p : Position) (tag : List ℕ) (i : List ℕ) (level : Level) (inner : List ℕ) → Opens p.mode p.here i level inner → has_tag tag i ≡ false → NoneOpens tag p
none_opens_other p tag i level inner o f j level' inner' q = ap (has_tag tag) (sym (opens_once p.mode p.here i j level level' inner inner' o q)) ∙ f

-- ---- `take_primitive`

pub takes_primitive : (old new : Position) (tag : List ℕ) (i l c : List ℕ) → Begins old.mode old.here (Primitive i l c) new.here → has_tag tag i ≡ true → new.levels ≡ old.levels → new.mode ≡ old.mode → TakesOne (primitive tag) old new c
takes_primitive old new tag i l c b t e m = record { value = Primitive i l c; begins = b; reads = rw t refl; levels = e; mode = m }

pub none_primitive : (p : Position) (tag : List ℕ) → NoPart p.mode p.here → NoneStands (primitive tag) p
none_primitive p tag n v rest b = absurd (n.no_value v rest b)

pub none_primitive_other : (p : Position) (tag : List ℕ) (i l c rest : List ℕ) → Begins p.mode p.here (Primitive i l c) rest → has_tag tag i ≡ false → NoneStands (primitive tag) p
none_primitive_other p tag i l c rest b f v rest' b' =
    let s = at_most_one p.mode p.here (Primitive i l c) v rest rest' b b' in
    let e : primitive tag (Primitive i l c) ≡ None = rw f refl in
    ap (primitive tag) (sym s.value) ∙ e

pub none_primitive_opens : (p : Position) (tag : List ℕ) (i : List ℕ) (level : Level) (inner : List ℕ) → Opens p.mode p.here i level inner → NoneStands (primitive tag) p
none_primitive_opens p tag i level inner o (Primitive j l c) rest b = absurd (primitive_apart p.mode p.here j l c rest i level inner b o)
none_primitive_opens p tag i level inner o (Constructed j f vs) rest b = refl

-- ---- `capture`

pub slice_of : (here : List ℕ) (v : Value) (rest slice : List ℕ) (mode : Mode) → Begins mode here v rest → slice ≡ take (length here - length rest) here → any v ≡ Some slice
slice_of here v rest slice mode b s =
    let size : length here - length rest ≡ length (spelling v) = omega (arith, simp length-append at (ap length b.parts)) in
    let whole : slice ≡ spelling v = s ∙ rw (size, b.parts) (take_at (spelling v) rest (length (spelling v)) refl) in ap Some (sym whole)

pub none_any : (p : Position) → NoValue p.mode p.here → NoneStands any p
none_any p n v rest b = absurd (n v rest b)

-- ---- the end of a level

pub none_ends : (opened : List Level) (level : Level) (here : List ℕ) (r : Option (Bor (List ℕ))) → opened ≡ level ∷ drop 1 opened → IfNone r ((rest : List ℕ) → EndsLevel level here rest → ⊥) → IfNone r ((rest : List ℕ) × EndsLevel (top opened) here rest → ⊥)
none_ends opened level here None e n = λ p. n p.0 (subst (λ (l : Level). EndsLevel l here p.0) (ap top e) p.1)
none_ends opened level here (Some r) e n = tt
