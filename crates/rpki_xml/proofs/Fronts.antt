-- What was read at the front of octets stood there.
use Rattle.std.proofs.Common.{◌≡◌, ℕ, Bool, true, false, cond, eqb, List, [], ◌∷◌, ◌++◌, Option, Some, None, refl, sym, ap, subst, ◌∙◌}
use Rattle.std.proofs.lemmas.Bool.{eqb-true, eq-eqb}
use Rattle.std.specs.List.{list_all}
use Rattle.rpki_common.specs.Chaining.{◌>>=◌}
use Rattle.rpki_common.proofs.Truths.{none_some, same_some}
use Rattle.rpki_xml.specs.Content.{behind, is_white}
use Rattle.rpki_xml.specs.Lexing.{front_of, back_of, or_else, behind_front, past_white, name_at}
use Rattle.rpki_xml.specs.Name.{is_name, is_name_octet}
use Rattle.rpki_xml.proofs.Plains.{front_back}

-- ---- what gave something

pub came : {X Y : Type 0} (o : Option X) (f : X → Option Y) (y : Y) → (o >>= f) ≡ Some y → (x : X) × (o ≡ Some x) × (f x ≡ Some y)
unfolding ◌>>=◌
came None f y e = absurd (none_some y e)
came (Some x) f y e = (x, refl, e)

pub tested : {X : Type 0} (t : Bool) (o : Option X) (y : X) → cond t o None ≡ Some y → (t ≡ true) × (o ≡ Some y)
tested true o y e = (refl, e)
tested false o y e = absurd (none_some y e)

pub or_either : {X P : Type 0} (a b : Option X) (y : X) → (a ≡ Some y → P) → (b ≡ Some y → P) → or_else a b ≡ Some y → P
or_either (Some x) b y f g e = f e
or_either None b y f g e = g e

pub front_either : {X P : Type 0} (o : Option (List ℕ)) (at : List ℕ → Option X) (other : Option X) (y : X) → ((rest : List ℕ) → o ≡ Some rest → at rest ≡ Some y → P) → (other ≡ Some y → P) → behind_front o at other ≡ Some y → P
front_either (Some rest) at other y f g e = f rest refl e
front_either None at other y f g e = g e

-- ---- fronts

pub front_is : (front b rest : List ℕ) → behind front b ≡ Some rest → b ≡ front ++ rest
front_is [] b rest e = same_some b rest e
front_is (c ∷ front) [] rest e = absurd (none_some rest e)
front_is (c ∷ front) (d ∷ b) rest e =
    let p = tested (eqb d c) (behind front b) rest e in
    ap (λ (k : ℕ). k ∷ b) (eqb-true d c p.0) ∙ ap (λ (l : List ℕ). c ∷ l) (front_is front b rest p.1)

pub front_there : (front rest : List ℕ) → behind front (front ++ rest) ≡ Some rest
front_there [] rest = refl
front_there (c ∷ front) rest = rw (eq-eqb c c refl) (front_there front rest)

pub front_passes : (passes : ℕ → Bool) (b : List ℕ) → list_all passes (front_of passes b) ≡ true
front_passes passes [] = refl
front_passes passes (c ∷ b) = go (passes c) refl (front_passes passes b)
  where
    go : (x : Bool) → passes c ≡ x → list_all passes (front_of passes b) ≡ true → list_all passes (cond x (c ∷ front_of passes b) []) ≡ true
    go true e h = rw e h
    go false e h = refl

-- ---- white space and names

pub white_front : (b : List ℕ) → b ≡ front_of is_white b ++ past_white b
white_front b = sym (front_back is_white b)

pub name_is : (b n rest : List ℕ) → name_at b ≡ Some (n, rest) → (b ≡ n ++ rest) × (is_name n ≡ true) × (list_all is_name_octet n ≡ true)
unfolding name_at
name_is b n rest e =
    let p = tested (is_name (front_of is_name_octet b)) (Some (front_of is_name_octet b, back_of is_name_octet b)) (n, rest) e in
    let q : (front_of is_name_octet b, back_of is_name_octet b) ≡ (n, rest) = same_some (front_of is_name_octet b, back_of is_name_octet b) (n, rest) p.1 in
    let front : front_of is_name_octet b ≡ n = ap (λ (x : List ℕ × List ℕ). x.0) q in
    let back : back_of is_name_octet b ≡ rest = ap (λ (x : List ℕ × List ℕ). x.1) q in
    (sym (front_back is_name_octet b) ∙ ap (λ (l : List ℕ). l ++ back_of is_name_octet b) front ∙ ap (λ (l : List ℕ). n ++ l) back, subst (λ (l : List ℕ). is_name l ≡ true) front p.0, subst (λ (l : List ℕ). list_all is_name_octet l ≡ true) front (front_passes is_name_octet b))
