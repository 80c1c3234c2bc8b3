-- The fields of a constructed value, one after another.
use Rattle.std.proofs.Common.{◌≡◌, Option, None, Some, ap, subst, ◌∙◌}
use Rattle.rpki_common.specs.Chaining.{◌>>=◌}
use Rattle.rpki_common.proofs.Bounds.{bound}
use Rattle.rpki_common.proofs.Truths.{same_some}
use Rattle.rpki_der.specs.declared.mode.Mode.{Mode}
use Rattle.rpki_der.specs.Grammar.{first}
use Rattle.rpki_der.specs.Value.{Value, Values, End, ◌▸◌, IsValue, AreValues}
use Rattle.rpki_der.proofs.Firsts.{FirstIs, first_is}
use Rattle.rpki_sigmsg.specs.Message.{if_any}

-- the next field was read as the first part of this, and the values behind it are the second
pub record Field {X Y : Type 0} (grammar : Value → Option X) (vs : Values) (f : X × Values → Option Y) (y : Y) : Type 0 where
  pub x : X × Values
  pub is : FirstIs grammar vs x
  pub then' : f x ≡ Some y

pub field : {X Y : Type 0} (grammar : Value → Option X) (vs : Values) (f : X × Values → Option Y) (y : Y) → (first grammar vs >>= f) ≡ Some y → Field grammar vs f y
field grammar vs f y e =
    let b = bound (first grammar vs) f y e in
    record { x = b.x; is = first_is grammar vs b.x b.found; then' = b.then' }

-- the next of lawful values was read as the first part of this, and the values behind it are the second
pub record LawfulField {X Y : Type 0} (mode : Mode) (grammar : Value → Option X) (vs : Values) (f : X × Values → Option Y) (y : Y) : Type 0 where
  pub x : X × Values
  pub is : FirstIs grammar vs x
  pub then' : f x ≡ Some y
  pub lawful : IsValue mode is.value
  pub rest : AreValues mode x.1

pub first_lawful : {X : Type 0} (mode : Mode) (grammar : Value → Option X) (vs : Values) (p : X × Values) (f : FirstIs grammar vs p) → AreValues mode vs → IsValue mode f.value × AreValues mode p.1
first_lawful mode grammar vs p f l = let all : AreValues mode (f.value ▸ p.1) = subst (AreValues mode) f.parts l in (all.0, all.1)

pub lawful_field : {X Y : Type 0} (mode : Mode) (grammar : Value → Option X) (vs : Values) (f : X × Values → Option Y) (y : Y) → AreValues mode vs → (first grammar vs >>= f) ≡ Some y → LawfulField mode grammar vs f y
lawful_field mode grammar vs f y l e =
    let a = field grammar vs f y e in
    let all = first_lawful mode grammar vs a.x a.is l in
    record { x = a.x; is = a.is; then' = a.then'; lawful = all.0; rest = all.1 }

-- a value that may be there, and is
none_there : {X : Type 0} (grammar : Value → Option X) (x : X) (rest : Values) → if_any grammar End ≡ Some (Some x, rest) → ⊥
unfolding if_any
none_there {X = X} grammar x rest e = nothing (ap (λ (o : Option (Option X × Values)). found o) e)
  where
    found : Option (Option X × Values) → Option X
    found None = None
    found (Some p) = p.0

    nothing : None ≡ Some x → ⊥
    nothing k = cc

pub there_is : {X : Type 0} (grammar : Value → Option X) (vs : Values) (x : X) (rest : Values) → if_any grammar vs ≡ Some (Some x, rest) → FirstIs grammar vs (x, rest)
unfolding if_any
there_is grammar End x rest e = absurd (none_there grammar x rest e)
there_is {X = X} grammar (v ▸ vs) x rest e =
    let b = bound (grammar v) _ (Some x, rest) e in
    let same : (Some b.x, vs) ≡ (Some x, rest) = same_some _ _ b.then' in
    record {
      value = v;
      parts = ap (λ (p : Option X × Values). v ▸ p.1) same;
      reads = b.found ∙ ap (λ (p : Option X × Values). p.0) same;
    }
