-- For one mode, at most one value begins octets.
use Rattle.std.proofs.Common.{◌≡◌, ℕ, ◌%◌, true, false, List, [], ◌∷◌, ◌++◌, length, refl, sym, ap, subst, ◌∙◌, append_assoc, arith}
use Rattle.rpki_der.specs.declared.mode.Mode.{Mode}
use Rattle.rpki_der.specs.Identifier.{IsFurther, IsIdentifier, is_constructed}
use Rattle.rpki_der.specs.Lengths.{number, IsLength}
use Rattle.rpki_der.specs.Value.{Definite, Indefinite, Value, Primitive, Constructed, Values, End, ◌▸◌, lengths_of, end_mark, spelling, spellings, IsValue, AreValues}

-- two cuts of one list at the same place
pub record Same (a b x y : List ℕ) : Type 0 where
  pub front : a ≡ b
  pub rest : x ≡ y

one_more : (a b : ℕ) (us ws x y : List ℕ) → a ≡ b → Same us ws x y → Same (a ∷ us) (b ∷ ws) x y
one_more a b us ws x y e s = let f = s.front in record { front = cc; rest = s.rest }

pub head_of : (a b : ℕ) (x y : List ℕ) → a ∷ x ≡ b ∷ y → a ≡ b
head_of a b x y e = cc

pub tail_of : (a b : ℕ) (x y : List ℕ) → a ∷ x ≡ b ∷ y → x ≡ y
tail_of a b x y e = cc

pub same_cut : (a b x y : List ℕ) → length a ≡ length b → a ++ x ≡ b ++ y → Same a b x y
same_cut [] [] x y len e = record { front = refl; rest = e }
same_cut [] (b ∷ ws) x y len e = absurd (omega (arith, len))
same_cut (a ∷ us) [] x y len e = absurd (omega (arith, len))
same_cut (a ∷ us) (b ∷ ws) x y len e = one_more a b us ws x y (head_of a b _ _ e) (same_cut us ws x y (omega (arith, len)) (tail_of a b _ _ e))

pub same_further : (a b x y : List ℕ) → IsFurther a → IsFurther b → a ++ x ≡ b ++ y → Same a b x y
same_further [] b x y p q e = absurd p
same_further (a ∷ us) [] x y p q e = absurd q
same_further (a ∷ []) (b ∷ []) x y p q e = record { front = cc; rest = cc }
same_further (a ∷ []) (b ∷ c ∷ ws) x y p q e = let h : a ≡ b = head_of a b _ _ e in absurd (omega (arith, q.0))
same_further (a ∷ c ∷ us) (b ∷ []) x y p q e = let h : a ≡ b = head_of a b _ _ e in absurd (omega (arith, p.0))
same_further (a ∷ c ∷ us) (b ∷ d ∷ ws) x y p q e = one_more a b (c ∷ us) (d ∷ ws) x y (head_of a b _ _ e) (same_further (c ∷ us) (d ∷ ws) x y p.1 q.1 (tail_of a b _ _ e))

pub same_identifier : (a b x y : List ℕ) → IsIdentifier a → IsIdentifier b → a ++ x ≡ b ++ y → Same a b x y
same_identifier [] b x y p q e = absurd p
same_identifier (a ∷ us) [] x y p q e = absurd q
same_identifier (a ∷ []) (b ∷ []) x y p q e = record { front = cc; rest = cc }
same_identifier (a ∷ []) (b ∷ d ∷ ws) x y p q e = let h : a ≡ b = head_of a b _ _ e in absurd (p.0 (ap (λ n. n % 32) h ∙ q.0))
same_identifier (a ∷ c ∷ us) (b ∷ []) x y p q e = let h : a ≡ b = head_of a b _ _ e in absurd (q.0 (ap (λ n. n % 32) (sym h) ∙ p.0))
same_identifier (a ∷ c ∷ us) (b ∷ d ∷ ws) x y p q e = one_more a b (c ∷ us) (d ∷ ws) x y (head_of a b _ _ e) (same_further (c ∷ us) (d ∷ ws) x y p.2 q.2 (tail_of a b _ _ e))

pub record SameLength (a b x y : List ℕ) (m n : ℕ) : Type 0 where
  pub cut : Same a b x y
  pub count : m ≡ n

pub same_length : (mode : Mode) (a b x y : List ℕ) (m n : ℕ) → IsLength mode a m → IsLength mode b n → a ++ x ≡ b ++ y → SameLength a b x y m n
same_length mode [] b x y m n p q e = absurd p
same_length mode (a ∷ us) [] x y m n p q e = absurd q
same_length mode (a ∷ []) (b ∷ []) x y m n p q e = let k = p.1 in let l = q.1 in record { cut = record { front = cc; rest = cc }; count = cc }
same_length mode (a ∷ []) (b ∷ d ∷ ws) x y m n p q e = let h : a ≡ b = head_of a b _ _ e in absurd (omega (arith, p.0, q.0))
same_length mode (a ∷ c ∷ us) (b ∷ []) x y m n p q e = let h : a ≡ b = head_of a b _ _ e in absurd (omega (arith, p.0, q.0))
same_length mode (a ∷ c ∷ us) (b ∷ d ∷ ws) x y m n p q e =
    let h : a ≡ b = head_of a b _ _ e in
    let s = same_cut (c ∷ us) (d ∷ ws) x y (omega (arith, p.0, q.0)) (tail_of a b _ _ e) in
    record { cut = one_more a b (c ∷ us) (d ∷ ws) x y h s; count = p.2 ∙ ap number s.front ∙ sym q.2 }

-- what may stand behind the last value of a list
abbrev pub IsEnd : List ℕ → Type 0
IsEnd [] = Unit {0}
IsEnd (a ∷ x) = a ≡ 0

pub not_zero : (i x : List ℕ) → IsIdentifier i → IsEnd (i ++ x) → ⊥
not_zero [] x p h = p
not_zero (a ∷ []) x p h = p.1 h
not_zero (a ∷ b ∷ i) x p h = let z : 0 ≡ 31 = ap (λ n. n % 32) (sym h) ∙ p.0 in absurd (omega arith)

pub not_indefinite : (mode : Mode) (a x y : List ℕ) (n : ℕ) → IsLength mode a n → a ++ x ≡ 128 ∷ y → ⊥
not_indefinite mode [] x y n p e = p
not_indefinite mode (a ∷ []) x y n p e = let h : a ≡ 128 = head_of a 128 _ _ e in omega (arith, p.0)
not_indefinite mode (a ∷ b ∷ us) x y n p e = let h : a ≡ 128 = head_of a 128 _ _ e in omega (arith, p.0)

pub three_parts : (i l c x : List ℕ) → (i ++ (l ++ c)) ++ x ≡ i ++ (l ++ (c ++ x))
three_parts i l c x = simp append_assoc

pub four_parts : (i l c m x : List ℕ) → (i ++ (l ++ (c ++ m))) ++ x ≡ i ++ (l ++ (c ++ (m ++ x)))
four_parts i l c m x = simp append_assoc

pub record SameValue (v w : Value) (x y : List ℕ) : Type 0 where
  pub value : v ≡ w
  pub rest : x ≡ y

pub record SameValues (vs ws : Values) (x y : List ℕ) : Type 0 where
  pub values : vs ≡ ws
  pub rest : x ≡ y

same_primitive : (mode : Mode) (i l c j m d x y : List ℕ) → IsValue mode (Primitive i l c) → IsValue mode (Primitive j m d) → i ++ (l ++ (c ++ x)) ≡ j ++ (m ++ (d ++ y)) → SameValue (Primitive i l c) (Primitive j m d) x y
same_primitive mode i l c j m d x y p q e =
    let s = same_identifier i j _ _ p.0 q.0 e in
    let t = same_length mode l m _ _ _ _ p.2 q.2 s.rest in
    let u = same_cut c d x y t.count t.cut.rest in
    let e1 = s.front in let e2 = t.cut.front in let e3 = u.front in
    record { value = cc; rest = u.rest }

pub mixed : (i j x y : List ℕ) → IsIdentifier i → IsIdentifier j → is_constructed i ≡ false → is_constructed j ≡ true → i ++ x ≡ j ++ y → ⊥
mixed i j x y p q f t e =
    let s = same_identifier i j x y p q e in
    let h : is_constructed i ≡ is_constructed j = ap is_constructed s.front in cc

pub begins_no_end : (mode : Mode) (v : Value) (x : List ℕ) → IsValue mode v → IsEnd (spelling v ++ x) → ⊥
begins_no_end mode (Primitive i l c) x p h = not_zero i _ p.0 (subst IsEnd (three_parts i l c x) h)
begins_no_end mode (Constructed i f us) x p h = not_zero i _ p.0 (subst IsEnd (four_parts i (lengths_of f) (spellings us) (end_mark f) x) h)

mutual
  pub same_value : (mode : Mode) (v w : Value) (x y : List ℕ) → IsValue mode v → IsValue mode w → spelling v ++ x ≡ spelling w ++ y → SameValue v w x y
  same_value mode (Primitive i l c) (Primitive j m d) x y p q e = same_primitive mode i l c j m d x y p q (sym (three_parts i l c x) ∙ e ∙ three_parts j m d y)
  same_value mode (Primitive i l c) (Constructed j g ws) x y p q e = absurd (mixed i j _ _ p.0 q.0 p.1 q.1 (sym (three_parts i l c x) ∙ e ∙ four_parts j (lengths_of g) (spellings ws) (end_mark g) y))
  same_value mode (Constructed i f us) (Primitive j m d) x y p q e = absurd (mixed j i _ _ q.0 p.0 q.1 p.1 (sym (three_parts j m d y) ∙ sym e ∙ four_parts i (lengths_of f) (spellings us) (end_mark f) x))
  same_value mode (Constructed i (Definite a) us) (Constructed j (Definite b) ws) x y p q e =
      let e' = sym (four_parts i a (spellings us) [] x) ∙ e ∙ four_parts j b (spellings ws) [] y in
      let s = same_identifier i j _ _ p.0 q.0 e' in
      let t = same_length mode a b _ _ _ _ p.2 q.2 s.rest in
      let u = same_cut (spellings us) (spellings ws) x y t.count t.cut.rest in
      let k = same_values mode us ws [] [] p.3 q.3 tt tt (ap (λ z. z ++ []) u.front) in
      let e1 = s.front in let e2 = t.cut.front in let e3 = k.values in
      record { value = cc; rest = u.rest }
  same_value mode (Constructed i (Definite a) us) (Constructed j Indefinite ws) x y p q e =
      let e' = sym (four_parts i a (spellings us) [] x) ∙ e ∙ four_parts j (128 ∷ []) (spellings ws) (0 ∷ 0 ∷ []) y in
      let s = same_identifier i j _ _ p.0 q.0 e' in
      absurd (not_indefinite mode a _ _ _ p.2 s.rest)
  same_value mode (Constructed i Indefinite us) (Constructed j (Definite b) ws) x y p q e =
      let e' = sym (four_parts j b (spellings ws) [] y) ∙ sym e ∙ four_parts i (128 ∷ []) (spellings us) (0 ∷ 0 ∷ []) x in
      let s = same_identifier j i _ _ q.0 p.0 e' in
      absurd (not_indefinite mode b _ _ _ q.2 s.rest)
  same_value mode (Constructed i Indefinite us) (Constructed j Indefinite ws) x y p q e =
      let e' = sym (four_parts i (128 ∷ []) (spellings us) (0 ∷ 0 ∷ []) x) ∙ e ∙ four_parts j (128 ∷ []) (spellings ws) (0 ∷ 0 ∷ []) y in
      let s = same_identifier i j _ _ p.0 q.0 e' in
      let k = same_values mode us ws (0 ∷ 0 ∷ x) (0 ∷ 0 ∷ y) p.3 q.3 refl refl (tail_of 128 128 _ _ s.rest) in
      let e1 = s.front in let e2 = k.values in
      record { value = cc; rest = tail_of 0 0 _ _ (tail_of 0 0 _ _ k.rest) }

  pub same_values : (mode : Mode) (vs ws : Values) (x y : List ℕ) → AreValues mode vs → AreValues mode ws → IsEnd x → IsEnd y → spellings vs ++ x ≡ spellings ws ++ y → SameValues vs ws x y
  same_values mode End End x y p q f g e = record { values = refl; rest = e }
  same_values mode End (w ▸ ws) x y p q f g e = absurd (begins_no_end mode w (spellings ws ++ y) q.0 (subst IsEnd (e ∙ append_assoc (spelling w) (spellings ws) y) f))
  same_values mode (v ▸ vs) End x y p q f g e = absurd (begins_no_end mode v (spellings vs ++ x) p.0 (subst IsEnd (sym e ∙ append_assoc (spelling v) (spellings vs) x) g))
  same_values mode (v ▸ vs) (w ▸ ws) x y p q f g e =
      let s = same_value mode v w _ _ p.0 q.0 (sym (append_assoc (spelling v) (spellings vs) x) ∙ e ∙ append_assoc (spelling w) (spellings ws) y) in
      let t = same_values mode vs ws x y p.1 q.1 f g s.rest in
      let e1 = s.value in let e2 = t.values in
      record { values = cc; rest = t.rest }
