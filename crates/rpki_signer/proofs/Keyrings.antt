-- Lists of held keys.
use Rattle.std.proofs.Common.{◌≡◌, ◌⊎◌, inl, inr, List, [], ◌∷◌, ◌++◌, sym, ap, subst, ◌∙◌, arith}
use Rattle.std.specs.Prelude.{Contains}
use Rattle.std.proofs.lemmas.List.Elements.{Contains-push, Contains-push_cases, Contains-append_left, Contains-append_right, Contains-append_cases}
use Rattle.rpki_base.specs.PublicKey.{KeyFields}
use Rattle.rpki_signer.specs.Signer.{HeldKey, HoldsKey, LacksKey, AreDistinct}

-- ---- membership

pub none_in : {X : Type 0} (x : X) → Contains [] x → ⊥
none_in x c = omega (arith, c.1)

pub here : {X : Type 0} (x : X) (xs : List X) → Contains (x ∷ xs) x
here x xs = Contains-append_left (x ∷ []) xs x (Contains-push [] x)

pub behind : {X : Type 0} (x y : X) (xs : List X) → Contains xs y → Contains (x ∷ xs) y
behind x y xs c = Contains-append_right (x ∷ []) xs y c

one_in : {X : Type 0} (x y : X) → (Contains [] y ⊎ (x ≡ y)) → x ≡ y
one_in x y (inl c) = absurd (none_in y c)
one_in x y (inr e) = e

either_in : {X : Type 0} (x y : X) (xs : List X) → (Contains (x ∷ []) y ⊎ Contains xs y) → (x ≡ y) ⊎ Contains xs y
either_in x y xs (inl c) = inl (one_in x y (Contains-push_cases [] x y c))
either_in x y xs (inr c) = inr c

pub first_or_behind : {X : Type 0} (x y : X) (xs : List X) → Contains (x ∷ xs) y → (x ≡ y) ⊎ Contains xs y
first_or_behind x y xs c = either_in x y xs (Contains-append_cases (x ∷ []) xs y c)

-- ---- one key an identifier

id_of : {I : Type 0} (h k : HeldKey I) → h ≡ k → h.id ≡ k.id
id_of {I = I} h k e = ap (λ (x : HeldKey I). x.id) e

key_under : {I : Type 0} (h : HeldKey I) (id : I) (k : KeyFields) → h ≡ record { id = id; key = k } → h.key ≡ k
key_under {I = I} h id k e = ap (λ (x : HeldKey I). x.key) e

one_key_by : {I : Type 0} (h : HeldKey I) (more : List (HeldKey I)) (id : I) (k l : KeyFields) → LacksKey more h.id
    → ((h ≡ record { id = id; key = k }) ⊎ HoldsKey more id k) → ((h ≡ record { id = id; key = l }) ⊎ HoldsKey more id l)
    → (HoldsKey more id k → HoldsKey more id l → k ≡ l) → k ≡ l
one_key_by h more id k l n (inl p) (inl q) f = sym (key_under h id k p) ∙ key_under h id l q
one_key_by h more id k l n (inl p) (inr d) f = absurd (n l (subst (λ i. HoldsKey more i l) (sym (id_of h (record { id = id; key = k }) p)) d))
one_key_by h more id k l n (inr c) (inl q) f = absurd (n k (subst (λ i. HoldsKey more i k) (sym (id_of h (record { id = id; key = l }) q)) c))
one_key_by h more id k l n (inr c) (inr d) f = f c d

pub one_key : {I : Type 0} (keyring : List (HeldKey I)) (id : I) (k l : KeyFields) → AreDistinct keyring → HoldsKey keyring id k → HoldsKey keyring id l → k ≡ l
one_key [] id k l d p q = absurd (none_in (record { id = id; key = k }) p)
one_key (h ∷ more) id k l d p q =
    one_key_by h more id k l d.0 (first_or_behind h (record { id = id; key = k }) more p) (first_or_behind h (record { id = id; key = l }) more q) (one_key more id k l d.1)

-- ---- a key more, and a key less

lacks_push_by : {I : Type 0} (h g : HeldKey I) (more : List (HeldKey I)) (key : KeyFields) → LacksKey more h.id → LacksKey (h ∷ more) g.id
    → (HoldsKey more h.id key ⊎ (g ≡ record { id = h.id; key = key })) → ⊥
lacks_push_by h g more key n m (inl c) = n key c
lacks_push_by h g more key n m (inr e) = m h.key (subst (λ i. HoldsKey (h ∷ more) i h.key) (sym (id_of g (record { id = h.id; key = key }) e)) (here h more))

pub distinct_push : {I : Type 0} (keyring : List (HeldKey I)) (g : HeldKey I) → AreDistinct keyring → LacksKey keyring g.id → AreDistinct (keyring ++ g ∷ [])
distinct_push [] g d n = ((λ key c. none_in (record { id = g.id; key = key }) c), tt)
distinct_push (h ∷ more) g d n = (
  (λ key c. lacks_push_by h g more key d.0 n (Contains-push_cases more g (record { id = h.id; key = key }) c)),
  distinct_push more g d.1 (λ key c. n key (behind h (record { id = g.id; key = key }) more c)),
)

kept_by : {X : Type 0} (front : List X) (x y : X) (back : List X) → (Contains front y ⊎ Contains back y) → Contains (front ++ x ∷ back) y
kept_by front x y back (inl c) = Contains-append_left front (x ∷ back) y c
kept_by front x y back (inr c) = Contains-append_right front (x ∷ back) y (behind x y back c)

pub kept : {X : Type 0} (front : List X) (x y : X) (back : List X) → Contains (front ++ back) y → Contains (front ++ x ∷ back) y
kept front x y back c = kept_by front x y back (Contains-append_cases front back y c)

pub distinct_out : {I : Type 0} (front : List (HeldKey I)) (g : HeldKey I) (back : List (HeldKey I)) → AreDistinct (front ++ g ∷ back) → AreDistinct (front ++ back)
distinct_out [] g back d = d.1
distinct_out (h ∷ front) g back d = ((λ key c. d.0 key (kept front g (record { id = h.id; key = key }) back c)), distinct_out front g back d.1)
