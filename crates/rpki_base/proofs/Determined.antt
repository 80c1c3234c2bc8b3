-- What a signed value says is what its signed octets are read as.
use Rattle.std.proofs.Common.{◌≡◌, ℕ, Option, Some, List, refl, sym, ap, subst, ◌∙◌}
use Rattle.std.proofs.lemmas.List.{append-nil}
use Rattle.rpki_common.specs.Chaining.{◌>>=◌}
use Rattle.rpki_common.proofs.Bounds.{bound, chosen}
use Rattle.rpki_common.proofs.Truths.{none_some, same_some}
use Rattle.rpki_der.specs.declared.mode.Mode.{Mode}
use Rattle.rpki_der.specs.Identifier.{has_tag}
use Rattle.rpki_der.specs.Tags.{sequence}
use Rattle.rpki_der.specs.Value.{Value, Primitive, Constructed, Values, ◌▸◌, spelling, IsValue, AreValues}
use Rattle.rpki_der.specs.Grammar.{within, first}
use Rattle.rpki_der.specs.Held.{with_octets}
use Rattle.rpki_der.specs.Whole.{whole_of}
use Rattle.rpki_der.proofs.Firsts.{first_is}
use Rattle.rpki_der.proofs.Flats.{alone_begins}
use Rattle.rpki_base.specs.SignedData.{Signed, signed_as, signed_value}

held_pair : {X : Type 0} (grammar : Value → Option X) (v : Value) (p : List ℕ × X) → with_octets grammar v ≡ Some p → (p.0 ≡ spelling v) × (grammar v ≡ Some p.1)
unfolding with_octets
held_pair {X = X} grammar v p e =
    let b = bound (grammar v) _ p e in
    let is : (spelling v, b.x) ≡ p = same_some _ _ b.then' in
    (sym (ap (λ (q : List ℕ × X). q.0) is), b.found ∙ ap Some (ap (λ (q : List ℕ × X). q.1) is))

-- one value is what its octets are alone
alone_is : {X : Type 0} (grammar : Value → Option X) (mode : Mode) (v : Value) → IsValue mode v → whole_of grammar mode (spelling v) ≡ grammar v
unfolding whole_of ◌>>=◌
alone_is grammar mode v l =
    rw (alone_begins mode (spelling v) v (record { lawful = l; parts = sym (append-nil (spelling v)) })) refl

are_lawful : (mode : Mode) (vs : Values) (v : Value) (more : Values) → vs ≡ v ▸ more → AreValues mode vs → IsValue mode v
are_lawful mode vs v more e l = let all : AreValues mode (v ▸ more) = subst (AreValues mode) e l in all.0

pub determined : {A T : Type 0} (tbs : Mode → Value → Option T) (reads : Mode → List ℕ → Option A) (mode : Mode) (v : Value) (c : Signed A T) → IsValue mode v → signed_value tbs reads mode v ≡ Some c → whole_of (tbs mode) mode c.signed.slice ≡ Some c.tbs
unfolding signed_value signed_as within
determined tbs reads mode (Primitive i l d) c p e = absurd (none_some c e)
determined {A} {T} tbs reads mode (Constructed i f vs) c p e =
    let a = bound (first (with_octets (tbs mode)) vs) _ c (chosen (has_tag sequence i) _ c e) in
    let h = first_is (with_octets (tbs mode)) vs a.x a.found in
    let w = held_pair (tbs mode) h.value a.x.0 h.reads in
    let is = same_some _ c (bound _ _ c a.then').then' in
    let l = are_lawful mode vs h.value a.x.1 h.parts p.3 in
    let slice : a.x.0.0 ≡ c.signed.slice = ap (λ (k : Signed A T). k.signed.slice) is in
    let fields : a.x.0.1 ≡ c.tbs = ap (λ (k : Signed A T). k.tbs) is in
    ap (whole_of (tbs mode) mode) (sym slice ∙ w.0) ∙ alone_is (tbs mode) mode h.value l ∙ w.1 ∙ ap Some fields
