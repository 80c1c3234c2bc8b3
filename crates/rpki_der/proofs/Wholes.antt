-- Reading octets that hold exactly one value.
use Rattle.std.proofs.Common.{◌≡◌, ℕ, Option, Result, Ok, Err, List, [], refl, sym, ap, subst, ◌∙◌}
use Rattle.std.specs.Prelude.{IsErrAnd}
use Rattle.rpki_der.specs.declared.error.DecodeError.{DecodeError}
use Rattle.rpki_der.specs.declared.error.DecodeError.TheVariants.{Malformed, OutOfMemory}
use Rattle.rpki_der.specs.declared.mode.Mode.{Mode}
use Rattle.rpki_der.specs.Value.{Value, Begins}
use Rattle.rpki_der.specs.Level.{Level, Sized, EndsLevel}
use Rattle.rpki_der.specs.Position.{Position, top, AtEnd}
use Rattle.rpki_der.specs.Takes.{TakesOne, Refuses}
use Rattle.rpki_der.specs.Whole.{IsWhole, RefusesWhole, HoldsOne}
use Rattle.rpki_der.proofs.Parts.{at_most_one}

-- a cursor before the first of these octets
abbrev pub Fresh : Mode → List ℕ → Position → Type 0
Fresh mode octets p = p ≡ record { mode = mode; here = octets; levels = [] }

begins_in : (mode : Mode) (octets : List ℕ) (p : Position) (v : Value) (rest : List ℕ) → Fresh mode octets p → Begins p.mode p.here v rest → Begins mode octets v rest
begins_in mode octets p v rest e b = subst (λ (q : Position). Begins q.mode q.here v rest) e b

begins_out : (mode : Mode) (octets : List ℕ) (p : Position) (v : Value) (rest : List ℕ) → Fresh mode octets p → Begins mode octets v rest → Begins p.mode p.here v rest
begins_out mode octets p v rest e b = subst (λ (q : Position). Begins q.mode q.here v rest) (sym e) b

no_levels : (mode : Mode) (octets : List ℕ) (p q : Position) → Fresh mode octets p → q.levels ≡ p.levels → top q.levels ≡ Sized []
no_levels mode octets p q e l = ap top (l ∙ ap (λ (r : Position). r.levels) e)

pub whole_ok : {X : Type 0} (grammar : Value → Option X) (mode : Mode) (octets : List ℕ) (p q : Position) (x : X) → Fresh mode octets p → TakesOne grammar p q x → AtEnd q → IsWhole grammar mode octets x
whole_ok grammar mode octets p q x e t a =
    let ends : EndsLevel (Sized []) q.here a.0 = subst (λ (l : Level). EndsLevel l q.here a.0) (no_levels mode octets p q e t.levels) a.1 in
    record { value = t.value; begins = subst (Begins mode octets t.value) ends.0 (begins_in mode octets p t.value q.here e t.begins); reads = t.reads }

pub whole_more : {X : Type 0} (grammar : Value → Option X) (mode : Mode) (octets : List ℕ) (p q : Position) (x : X) → Fresh mode octets p → TakesOne grammar p q x → (AtEnd q → ⊥) → RefusesWhole grammar mode octets Malformed
unfolding RefusesWhole
whole_more grammar mode octets p q x e t more v b =
    let s = at_most_one mode octets t.value v q.here [] (begins_in mode octets p t.value q.here e t.begins) b in
    absurd (more ([], subst (λ (l : Level). EndsLevel l q.here []) (sym (no_levels mode octets p q e t.levels)) (s.rest, refl)))

pub whole_none : {X : Type 0} (grammar : Value → Option X) (mode : Mode) (octets : List ℕ) (p : Position) (error : DecodeError) → Fresh mode octets p → Refuses grammar p error → RefusesWhole grammar mode octets error
unfolding RefusesWhole Refuses
whole_none grammar mode octets p Malformed e n = λ v b. n v [] (begins_out mode octets p v [] e b)
whole_none grammar mode octets p OutOfMemory e n = tt

pub whole_memory : {X : Type 0} (grammar : Value → Option X) (mode : Mode) (octets : List ℕ) → RefusesWhole grammar mode octets OutOfMemory
unfolding RefusesWhole
whole_memory grammar mode octets = tt

pub whole_err : {X Y : Type 0} (grammar : Value → Option X) (view : Y → X) (mode : Mode) (octets : List ℕ) (error : DecodeError) (r : Result Y DecodeError) → IsErrAnd r (λ e. e ≡ error) → RefusesWhole grammar mode octets error → HoldsOne grammar view mode octets r
whole_err grammar view mode octets error (Ok y) h n = absurd h
whole_err grammar view mode octets error (Err e) h n = subst (RefusesWhole grammar mode octets) (sym h) n

-- ---- where the grammar is that of the cursor's mode

pub takes_fresh : {X : Type 0} (grammar : Mode → Value → Option X) (mode : Mode) (octets : List ℕ) (p q : Position) (x : X) → Fresh mode octets p → TakesOne (grammar p.mode) p q x → TakesOne (grammar mode) p q x
takes_fresh grammar mode octets p q x e t = subst (λ (m : Mode). TakesOne (grammar m) p q x) (ap (λ (r : Position). r.mode) e) t

pub refuses_fresh : {X : Type 0} (grammar : Mode → Value → Option X) (mode : Mode) (octets : List ℕ) (p : Position) (error : DecodeError) → Fresh mode octets p → Refuses (grammar p.mode) p error → Refuses (grammar mode) p error
refuses_fresh grammar mode octets p error e n = subst (λ (m : Mode). Refuses (grammar m) p error) (ap (λ (r : Position). r.mode) e) n
