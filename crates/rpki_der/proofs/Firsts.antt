-- What fields that were read say of the values that stand there.
use Rattle.std.proofs.Common.{◌≡◌, Option, Some, ap, ◌∙◌}
use Rattle.rpki_common.proofs.Bounds.{bound}
use Rattle.rpki_common.proofs.Truths.{none_some, same_some}
use Rattle.rpki_der.specs.Value.{Value, Values, End, ◌▸◌}
use Rattle.rpki_der.specs.Grammar.{first, done}

pub done_is : {X : Type 0} (x y : X) (vs : Values) → done x vs ≡ Some y → x ≡ y
unfolding done
done_is x y End e = same_some x y e
done_is x y (v ▸ vs) e = absurd (none_some y e)

-- the first of the values, and those behind it
pub record FirstIs {X : Type 0} (grammar : Value → Option X) (vs : Values) (p : X × Values) : Type 0 where
  pub value : Value
  pub parts : vs ≡ value ▸ p.1
  pub reads : grammar value ≡ Some p.0

pub first_is : {X : Type 0} (grammar : Value → Option X) (vs : Values) (p : X × Values) → first grammar vs ≡ Some p → FirstIs grammar vs p
unfolding first
first_is grammar End p e = absurd (none_some p e)
first_is {X = X} grammar (v ▸ vs) p e =
    let b = bound (grammar v) _ p e in
    let is : (b.x, vs) ≡ p = same_some _ _ b.then' in
    record {
      value = v;
      parts = ap (λ (q : X × Values). v ▸ q.1) is;
      reads = b.found ∙ ap Some (ap (λ (q : X × Values). q.0) is);
    }
