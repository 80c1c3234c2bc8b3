-- The value that `value_at` gives is the one that begins the octets.
use Rattle.std.proofs.Common.{◌≡◌, ℕ, zero, suc, ◌+◌, ◌<◌, ◌≤◌, Bool, true, false, cond, ltb, Option, None, Some, List, [], ◌∷◌, ◌++◌, length, take, drop, refl, sym, ap, subst, ◌∙◌, append_assoc, arith, length-append}
use Rattle.std.proofs.lemmas.Bool.{ltb-false, le-ltb}
use Rattle.std.proofs.lemmas.List.{append-nil, take-append-drop, take_at, drop_at, length-take-le}
use Rattle.rpki_der.specs.declared.header.Length.{Length}
use Rattle.rpki_der.specs.declared.header.Length.TheVariants as length_is
use Rattle.rpki_der.specs.declared.mode.Mode.{Mode}
use Rattle.rpki_der.specs.declared.mode.Mode.TheVariants.{Ber, Der}
use Rattle.rpki_der.specs.Identifier.{IsIdentifier, is_constructed}
use Rattle.rpki_der.specs.HeaderAt.{identifier_size}
use Rattle.rpki_der.specs.Lengths.{IsLength}
use Rattle.rpki_der.specs.HeaderAt.{length_at}
use Rattle.rpki_der.specs.Header.{SaysLength}
use Rattle.rpki_der.specs.Value.{Form, Definite, Indefinite, Value, Primitive, Constructed, Values, End, ◌▸◌, lengths_of, end_mark, spelling, spellings, IsForm, IsValue, AreValues, Begins}
use Rattle.rpki_common.specs.Chaining.{◌>>=◌}
use Rattle.rpki_der.specs.Takes.{BeginsAs, RefusesOctets}
use Rattle.rpki_der.specs.Reader.{Headed, head_at, primitive_of, sized_of, marked_of, read_value, read_contents, read_values, value_at, decoded}
use Rattle.rpki_der.proofs.Uniqueness.{three_parts, four_parts, IsEnd, begins_no_end}
use Rattle.rpki_der.proofs.Heads.{identifier_found, identifier_spelled, length_found, length_spelled}
use Rattle.rpki_der.specs.declared.error.DecodeError.TheVariants.{Malformed}
use Rattle.rpki_common.proofs.Truths.{none_some}

some_is : {X : Type 0} (x y : X) → Some x ≡ Some y → x ≡ y
some_is x y e = cc

bind_some : {X Y : Type 0} (o : Option X) (next : X → Option Y) (y : Y) → (o >>= next) ≡ Some y → (x : X) × (o ≡ Some x) × (next x ≡ Some y)
unfolding ◌>>=◌
bind_some None next y e = absurd (none_some y e)
bind_some (Some x) next y e = (x, refl, e)

bind_is : {X Y : Type 0} (o : Option X) (next : X → Option Y) (x : X) → o ≡ Some x → (o >>= next) ≡ next x
unfolding ◌>>=◌
bind_is o next x e = rw e refl

enough : {X : Type 0} (b : Bool) (o : Option X) (x : X) → cond b None o ≡ Some x → (b ≡ false) × (o ≡ Some x)
enough true o x e = absurd (none_some x e)
enough false o x e = (refl, e)

-- ---- the header

record Heads (mode : Mode) (octets : List ℕ) (h : Headed) : Type 0 where
  is_identifier : IsIdentifier h.identifier
  says : SaysLength mode h.lengths h.length'
  parts : octets ≡ h.identifier ++ (h.lengths ++ h.rest)

head_sound : (mode : Mode) (octets : List ℕ) (h : Headed) → head_at mode octets ≡ Some h → Heads mode octets h
unfolding head_at
head_sound mode octets h e =
    let a = bind_some (identifier_size octets) _ h e in
    let b = bind_some (length_at mode (drop a.0 octets)) _ h a.2 in
    let made : Headed = record { identifier = take a.0 octets; lengths = take b.0.1 (drop a.0 octets); length' = b.0.0; rest = drop b.0.1 (drop a.0 octets) } in
    subst (Heads mode octets) (some_is made h b.2) (record {
      is_identifier = identifier_found octets a.0 a.1;
      says = length_found mode (drop a.0 octets) b.0.0 b.0.1 b.1;
      parts = sym (take-append-drop a.0 octets) ∙ ap (λ r. take a.0 octets ++ r) (sym (take-append-drop b.0.1 (drop a.0 octets)));
    })

head_complete : (mode : Mode) (octets i l rest : List ℕ) (length' : Length) → IsIdentifier i → SaysLength mode l length' → octets ≡ i ++ (l ++ rest) → head_at mode octets ≡ Some (record { identifier = i; lengths = l; length' = length'; rest = rest })
unfolding head_at ◌>>=◌
head_complete mode octets i l rest length' p s e =
    rw (e, identifier_spelled i (l ++ rest) p, drop_at i (l ++ rest) (length i) refl, take_at i (l ++ rest) (length i) refl, length_spelled mode l rest length' s, drop_at l rest (length l) refl, take_at l rest (length l) refl) refl

-- ---- what is given begins the octets

record ReadsTo (mode : Mode) (octets : List ℕ) (vs : Values) (rest : List ℕ) : Type 0 where
  lawful : AreValues mode vs
  parts : octets ≡ spellings vs ++ rest
  ends : IsEnd rest

is_pair : (v w : Value) (r s : List ℕ) → ◌≡◌ {A = Option (Value × List ℕ)} (Some (v, r)) (Some (w, s)) → (v ≡ w) × (r ≡ s)
is_pair v w r s e = let p = some_is (v, r) (w, s) e in (ap (λ (q : Value × List ℕ). q.0) p, ap (λ (q : Value × List ℕ). q.1) p)

begins_as : (mode : Mode) (octets : List ℕ) (v w : Value) (r s : List ℕ) → ◌≡◌ {A = Option (Value × List ℕ)} (Some (v, r)) (Some (w, s)) → Begins mode octets v r → Begins mode octets w s
begins_as mode octets v w r s e b = let p = is_pair v w r s e in subst (Begins mode octets w) p.1 (subst (λ (x : Value). Begins mode octets x r) p.0 b)

primitive_sound : (mode : Mode) (octets : List ℕ) (h : Headed) (k : ℕ) → Heads mode octets h → h.length' ≡ length_is.Definite k → is_constructed h.identifier ≡ false → k ≤ length h.rest → Begins mode octets (Primitive h.identifier h.lengths (take k h.rest)) (drop k h.rest)
primitive_sound mode octets h k p l c le =
    let says : IsLength mode h.lengths k = subst (SaysLength mode h.lengths) l p.says in
    record {
      lawful = (p.is_identifier, c, subst (IsLength mode h.lengths) (sym (length-take-le k h.rest le)) says);
      parts = p.parts ∙ ap (λ r. h.identifier ++ (h.lengths ++ r)) (sym (take-append-drop k h.rest)) ∙ sym (three_parts h.identifier h.lengths (take k h.rest) (drop k h.rest));
    }

sized_sound : (mode : Mode) (octets : List ℕ) (h : Headed) (k : ℕ) (vs : Values) (r : List ℕ) (v : Value) (s : List ℕ) → Heads mode octets h → h.length' ≡ length_is.Definite k → is_constructed h.identifier ≡ true → k ≤ length h.rest → ReadsTo mode (take k h.rest) vs r → sized_of h k (vs, r) ≡ Some (v, s) → Begins mode octets v s
sized_sound mode octets h k vs (a ∷ r) v s p l c le i e = absurd (none_some (v, s) e)
sized_sound mode octets h k vs [] v s p l c le i e =
    let says : IsLength mode h.lengths k = subst (SaysLength mode h.lengths) l p.says in
    let inner : take k h.rest ≡ spellings vs = i.parts ∙ append-nil (spellings vs) in
    begins_as mode octets (Constructed h.identifier (Definite h.lengths) vs) v (drop k h.rest) s e (record {
      lawful = (p.is_identifier, c, subst (IsLength mode h.lengths) (sym (length-take-le k h.rest le) ∙ ap length inner) says, i.lawful);
      parts = p.parts ∙ ap (λ r. h.identifier ++ (h.lengths ++ r)) (sym (take-append-drop k h.rest) ∙ ap (λ t. t ++ drop k h.rest) inner) ∙ sym (four_parts h.identifier h.lengths (spellings vs) [] (drop k h.rest));
    })

marked_sound : (mode : Mode) (octets : List ℕ) (h : Headed) (vs : Values) (r : List ℕ) (v : Value) (s : List ℕ) → Heads mode octets h → h.length' ≡ length_is.Indefinite → is_constructed h.identifier ≡ true → ReadsTo mode h.rest vs r → marked_of h (vs, r) ≡ Some (v, s) → Begins mode octets v s
marked_sound mode octets h vs [] v s p l c i e = absurd (none_some (v, s) e)
marked_sound mode octets h vs (suc a ∷ r) v s p l c i e = absurd (none_some (v, s) e)
marked_sound mode octets h vs (zero ∷ []) v s p l c i e = absurd (none_some (v, s) e)
marked_sound mode octets h vs (zero ∷ suc a ∷ r) v s p l c i e = absurd (none_some (v, s) e)
marked_sound Der octets h vs (zero ∷ zero ∷ r) v s p l c i e =
    let says : SaysLength Der h.lengths length_is.Indefinite = subst (SaysLength Der h.lengths) l p.says in let no' : Der ≡ Ber = says.0 in absurd cc
marked_sound Ber octets h vs (zero ∷ zero ∷ r) v s p l c i e =
    let says : SaysLength Ber h.lengths length_is.Indefinite = subst (SaysLength Ber h.lengths) l p.says in
    begins_as Ber octets (Constructed h.identifier Indefinite vs) v r s e (record {
      lawful = (p.is_identifier, c, tt, i.lawful);
      parts = p.parts ∙ ap (λ t. h.identifier ++ (t ++ h.rest)) says.1 ∙ ap (λ t. h.identifier ++ (128 ∷ t)) i.parts ∙ sym (four_parts h.identifier (128 ∷ []) (spellings vs) (0 ∷ 0 ∷ []) r);
    })

values_cons : (mode : Mode) (octets : List ℕ) (v : Value) (r : List ℕ) (vs : Values) (s : List ℕ) → Begins mode octets v r → ReadsTo mode r vs s → ReadsTo mode octets (v ▸ vs) s
values_cons mode octets v r vs s b t = record { lawful = (b.lawful, t.lawful); parts = b.parts ∙ ap (λ x. spelling v ++ x) t.parts ∙ sym (append_assoc (spelling v) (spellings vs) s); ends = t.ends }

values_none : (vs : Values) (r : List ℕ) → ◌≡◌ {A = Option (Values × List ℕ)} None (Some (vs, r)) → ⊥
values_none vs r e = cc

values_as : (mode : Mode) (octets : List ℕ) (vs ws : Values) (r s : List ℕ) → ◌≡◌ {A = Option (Values × List ℕ)} (Some (vs, r)) (Some (ws, s)) → ReadsTo mode octets vs r → ReadsTo mode octets ws s
values_as mode octets vs ws r s e t = let p = some_is (vs, r) (ws, s) e in subst (λ (q : Values × List ℕ). ReadsTo mode octets q.0 q.1) p t

ended_values : (mode : Mode) (octets : List ℕ) (vs : Values) (r : List ℕ) → IsEnd octets → ◌≡◌ {A = Option (Values × List ℕ)} (Some (End, octets)) (Some (vs, r)) → ReadsTo mode octets vs r
ended_values mode octets vs r i e = values_as mode octets End vs octets r e (record { lawful = tt; parts = refl; ends = i })

mutual
  unfolding read_value

  sound_value : (n : ℕ) (mode : Mode) (octets : List ℕ) (v : Value) (r : List ℕ) → read_value n mode octets ≡ Some (v, r) → Begins mode octets v r
  sound_value zero mode octets v r e = absurd (none_some (v, r) e)
  sound_value (suc n) mode octets v r e =
      let h = bind_some (head_at mode octets) _ (v, r) e in
      sound_contents n mode octets h.0 h.0.length' (is_constructed h.0.identifier) v r (head_sound mode octets h.0 h.1) refl refl h.2

  sound_contents : (n : ℕ) (mode : Mode) (octets : List ℕ) (h : Headed) (l : Length) (c : Bool) (v : Value) (r : List ℕ) → Heads mode octets h → h.length' ≡ l → is_constructed h.identifier ≡ c → read_contents n mode h l c ≡ Some (v, r) → Begins mode octets v r
  sound_contents zero mode octets h l c v r p le ce e = absurd (none_some (v, r) e)
  sound_contents (suc n) mode octets h (length_is.Definite k) false v r p le ce e =
      let g = enough (ltb (length h.rest) k) (primitive_of h k) (v, r) e in
      begins_as mode octets (Primitive h.identifier h.lengths (take k h.rest)) v (drop k h.rest) r g.1 (primitive_sound mode octets h k p le ce (ltb-false (length h.rest) k g.0))
  sound_contents (suc n) mode octets h (length_is.Definite k) true v r p le ce e =
      let g = enough (ltb (length h.rest) k) (read_values n mode (take k h.rest) >>= sized_of h k) (v, r) e in
      let w = bind_some (read_values n mode (take k h.rest)) (sized_of h k) (v, r) g.1 in
      sized_sound mode octets h k w.0.0 w.0.1 v r p le ce (ltb-false (length h.rest) k g.0) (sound_values n mode (take k h.rest) w.0.0 w.0.1 w.1) w.2
  sound_contents (suc n) mode octets h length_is.Indefinite false v r p le ce e = absurd (none_some (v, r) e)
  sound_contents (suc n) mode octets h length_is.Indefinite true v r p le ce e =
      let w = bind_some (read_values n mode h.rest) (marked_of h) (v, r) e in
      marked_sound mode octets h w.0.0 w.0.1 v r p le ce (sound_values n mode h.rest w.0.0 w.0.1 w.1) w.2

  sound_values : (n : ℕ) (mode : Mode) (octets : List ℕ) (vs : Values) (r : List ℕ) → read_values n mode octets ≡ Some (vs, r) → ReadsTo mode octets vs r
  sound_values zero mode octets vs r e = absurd (values_none vs r e)
  sound_values (suc n) mode [] vs r e = ended_values mode [] vs r tt e
  sound_values (suc n) mode (zero ∷ more) vs r e = ended_values mode (0 ∷ more) vs r refl e
  sound_values (suc n) mode (suc a ∷ more) vs r e =
      let v = bind_some (read_value n mode (suc a ∷ more)) _ (vs, r) e in
      let w = bind_some (read_values n mode v.0.1) _ (vs, r) v.2 in
      values_as mode (suc a ∷ more) (v.0.0 ▸ w.0.0) vs w.0.1 r w.2 (values_cons mode (suc a ∷ more) v.0.0 v.0.1 w.0.0 w.0.1 (sound_value n mode (suc a ∷ more) v.0.0 v.0.1 v.1) (sound_values n mode v.0.1 w.0.0 w.0.1 w.1))

-- ---- what begins the octets is given

mutual
  weight : Value → ℕ
  weight (Primitive i l c) = 2
  weight (Constructed i f vs) = 2 + weights vs

  weights : Values → ℕ
  weights End = 1
  weights (v ▸ vs) = 1 + weight v + weights vs

not_at_end : (n : ℕ) (mode : Mode) (octets : List ℕ) (v : Value) (r : List ℕ) (vs : Values) (s : List ℕ) → (IsEnd octets → ⊥) → read_value n mode octets ≡ Some (v, r) → read_values n mode r ≡ Some (vs, s) → read_values (suc n) mode octets ≡ Some (v ▸ vs, s)
unfolding read_value ◌>>=◌
not_at_end n mode [] v r vs s h e f = absurd (h tt)
not_at_end n mode (zero ∷ more) v r vs s h e f = absurd (h refl)
not_at_end n mode (suc a ∷ more) v r vs s h e f = rw (e, f) refl

at_the_end : (n : ℕ) (mode : Mode) (octets : List ℕ) → IsEnd octets → read_values (suc n) mode octets ≡ Some (End, octets)
unfolding read_value
at_the_end n mode [] h = refl
at_the_end n mode (zero ∷ more) h = refl
at_the_end n mode (suc a ∷ more) h = absurd cc

step : (n : ℕ) (mode : Mode) (octets : List ℕ) (h : Headed) → head_at mode octets ≡ Some h → read_value (suc n) mode octets ≡ read_contents n mode h h.length' (is_constructed h.identifier)
unfolding read_value
step n mode octets h e = bind_is (head_at mode octets) _ h e

contents_primitive : (m : ℕ) (mode : Mode) (i l c r : List ℕ) (b : Bool) → b ≡ false → read_contents (suc m) mode (record { identifier = i; lengths = l; length' = length_is.Definite (length c); rest = c ++ r }) (length_is.Definite (length c)) b ≡ Some (Primitive i l c, r)
unfolding read_value
contents_primitive m mode i l c r true e = absurd cc
contents_primitive m mode i l c r false e =
    let long : ltb (length (c ++ r)) (length c) ≡ false = le-ltb _ _ (omega (arith, length-append c r)) in
    rw (long, take_at c r (length c) refl, drop_at c r (length c) refl) refl

primitive_complete : (m : ℕ) (mode : Mode) (octets i l c r : List ℕ) → Begins mode octets (Primitive i l c) r → read_value (suc (suc m)) mode octets ≡ Some (Primitive i l c, r)
primitive_complete m mode octets i l c r b =
    let h = head_complete mode octets i l (c ++ r) (length_is.Definite (length c)) b.lawful.0 b.lawful.2 (b.parts ∙ three_parts i l c r) in
    step (suc m) mode octets (record { identifier = i; lengths = l; length' = length_is.Definite (length c); rest = c ++ r }) h ∙ contents_primitive m mode i l c r (is_constructed i) b.lawful.1

contents_sized : (m : ℕ) (mode : Mode) (i l : List ℕ) (vs : Values) (s r : List ℕ) (b : Bool) → b ≡ true → read_values m mode s ≡ Some (vs, []) → read_contents (suc m) mode (record { identifier = i; lengths = l; length' = length_is.Definite (length s); rest = s ++ r }) (length_is.Definite (length s)) b ≡ Some (Constructed i (Definite l) vs, r)
unfolding read_value
contents_sized m mode i l vs s r false e f = absurd cc
contents_sized m mode i l vs s r true e f =
    let long : ltb (length (s ++ r)) (length s) ≡ false = le-ltb _ _ (omega (arith, length-append s r)) in
    let h : Headed = record { identifier = i; lengths = l; length' = length_is.Definite (length s); rest = s ++ r } in
    let inner : read_values m mode (take (length s) (s ++ r)) ≡ Some (vs, []) = ap (read_values m mode) (take_at s r (length s) refl) ∙ f in
    rw long (bind_is (read_values m mode (take (length s) (s ++ r))) (sized_of h (length s)) (vs, []) inner ∙ rw (drop_at s r (length s) refl) refl)

sized_complete : (m : ℕ) (mode : Mode) (octets i l : List ℕ) (vs : Values) (r : List ℕ) → Begins mode octets (Constructed i (Definite l) vs) r → read_values m mode (spellings vs) ≡ Some (vs, []) → read_value (suc (suc m)) mode octets ≡ Some (Constructed i (Definite l) vs, r)
sized_complete m mode octets i l vs r b e =
    let h = head_complete mode octets i l (spellings vs ++ r) (length_is.Definite (length (spellings vs))) b.lawful.0 b.lawful.2 (b.parts ∙ four_parts i l (spellings vs) [] r) in
    step (suc m) mode octets (record { identifier = i; lengths = l; length' = length_is.Definite (length (spellings vs)); rest = spellings vs ++ r }) h ∙ contents_sized m mode i l vs (spellings vs) r (is_constructed i) b.lawful.1 e

contents_marked : (m : ℕ) (i : List ℕ) (vs : Values) (s r : List ℕ) (b : Bool) → b ≡ true → read_values m Ber s ≡ Some (vs, 0 ∷ 0 ∷ r) → read_contents (suc m) Ber (record { identifier = i; lengths = 128 ∷ []; length' = length_is.Indefinite; rest = s }) length_is.Indefinite b ≡ Some (Constructed i Indefinite vs, r)
unfolding read_value
contents_marked m i vs s r false e f = absurd cc
contents_marked m i vs s r true e f =
    let h : Headed = record { identifier = i; lengths = 128 ∷ []; length' = length_is.Indefinite; rest = s } in
    bind_is (read_values m Ber s) (marked_of h) (vs, 0 ∷ 0 ∷ r) f

marked_complete : (m : ℕ) (octets i : List ℕ) (vs : Values) (r : List ℕ) → Begins Ber octets (Constructed i Indefinite vs) r → read_values m Ber (spellings vs ++ 0 ∷ 0 ∷ r) ≡ Some (vs, 0 ∷ 0 ∷ r) → read_value (suc (suc m)) Ber octets ≡ Some (Constructed i Indefinite vs, r)
marked_complete m octets i vs r b e =
    let h = head_complete Ber octets i (128 ∷ []) (spellings vs ++ 0 ∷ 0 ∷ r) length_is.Indefinite b.lawful.0 (refl, refl) (b.parts ∙ four_parts i (128 ∷ []) (spellings vs) (0 ∷ 0 ∷ []) r) in
    step (suc m) Ber octets (record { identifier = i; lengths = 128 ∷ []; length' = length_is.Indefinite; rest = spellings vs ++ 0 ∷ 0 ∷ r }) h ∙ contents_marked m i vs (spellings vs ++ 0 ∷ 0 ∷ r) r (is_constructed i) b.lawful.1 e

weight_primitive : (i l c : List ℕ) (n : ℕ) → weight (Primitive i l c) ≤ n → 2 ≤ n
unfolding weight
weight_primitive i l c n le = le

weight_is : (i : List ℕ) (f : Form) (vs : Values) (n : ℕ) → weight (Constructed i f vs) ≤ n → 2 + weights vs ≤ n
unfolding weight
weight_is i f vs n le = le

weights_end : (n : ℕ) → weights End ≤ n → 1 ≤ n
unfolding weight
weights_end n le = le

weights_cons : (v : Value) (vs : Values) (n : ℕ) → weights (v ▸ vs) ≤ n → 1 + (weight v + weights vs) ≤ n
unfolding weight
weights_cons v vs n le = omega arith

more_fuel : (n : ℕ) (P : ℕ → Type 0) → 2 ≤ n → ((m : ℕ) → n ≡ suc (suc m) → P (suc (suc m))) → P n
more_fuel zero P le f = absurd (omega arith)
more_fuel (suc zero) P le f = absurd (omega arith)
more_fuel (suc (suc m)) P le f = f m refl

one_fuel : (n : ℕ) (P : ℕ → Type 0) → 1 ≤ n → ((m : ℕ) → P (suc m)) → P n
one_fuel zero P le f = absurd (omega arith)
one_fuel (suc m) P le f = f m

suc_fuel : (n : ℕ) (P : ℕ → Type 0) (k : ℕ) → 1 + k ≤ n → ((m : ℕ) → k ≤ m → P (suc m)) → P n
suc_fuel zero P k le f = absurd (omega arith)
suc_fuel (suc m) P k le f = f m (omega arith)

two_less : (n k : ℕ) → 2 + k ≤ n → 2 ≤ n
two_less n k le = omega arith

less_two : (n m k : ℕ) → n ≡ suc (suc m) → 2 + k ≤ n → k ≤ m
less_two n m k e le = omega arith

part_left : (m a b : ℕ) → a + b ≤ m → a ≤ m
part_left m a b le = omega arith

part_right : (m a b : ℕ) → a + b ≤ m → b ≤ m
part_right m a b le = omega arith

mutual
  complete_value : (v : Value) (n : ℕ) (mode : Mode) (octets r : List ℕ) → weight v ≤ n → Begins mode octets v r → read_value n mode octets ≡ Some (v, r)
  complete_value (Primitive i l c) n mode octets r le b = more_fuel n (λ k. read_value k mode octets ≡ Some (Primitive i l c, r)) (weight_primitive i l c n le) (λ m lt. primitive_complete m mode octets i l c r b)
  complete_value (Constructed i (Definite l) vs) n mode octets r le b =
      more_fuel n (λ k. read_value k mode octets ≡ Some (Constructed i (Definite l) vs, r)) (two_less n (weights vs) (weight_is i (Definite l) vs n le)) (λ m e. sized_complete m mode octets i l vs r b (complete_values vs m mode (spellings vs) [] (less_two n m (weights vs) e (weight_is i (Definite l) vs n le)) b.lawful.3 (sym (append-nil (spellings vs))) tt))
  complete_value (Constructed i Indefinite vs) n Der octets r le b = absurd b.lawful.2
  complete_value (Constructed i Indefinite vs) n Ber octets r le b =
      more_fuel n (λ k. read_value k Ber octets ≡ Some (Constructed i Indefinite vs, r)) (two_less n (weights vs) (weight_is i Indefinite vs n le)) (λ m e. marked_complete m octets i vs r b (complete_values vs m Ber (spellings vs ++ 0 ∷ 0 ∷ r) (0 ∷ 0 ∷ r) (less_two n m (weights vs) e (weight_is i Indefinite vs n le)) b.lawful.3 refl refl))

  complete_values : (vs : Values) (n : ℕ) (mode : Mode) (octets r : List ℕ) → weights vs ≤ n → AreValues mode vs → octets ≡ spellings vs ++ r → IsEnd r → read_values n mode octets ≡ Some (vs, r)
  complete_values End n mode octets r le p e h = one_fuel n (λ k. read_values k mode octets ≡ Some (End, r)) (weights_end n le) (λ m. rw e (at_the_end m mode r h))
  complete_values (v ▸ vs) n mode octets r le p e h =
      let b : Begins mode octets v (spellings vs ++ r) = record { lawful = p.0; parts = e ∙ append_assoc (spelling v) (spellings vs) r } in
      suc_fuel n (λ k. read_values k mode octets ≡ Some (v ▸ vs, r)) (weight v + weights vs) (weights_cons v vs n le)
      (λ m w. not_at_end m mode octets v (spellings vs ++ r) vs r (λ i. begins_no_end mode v (spellings vs ++ r) p.0 (subst IsEnd b.parts i)) (complete_value v m mode octets (spellings vs ++ r) (part_left m (weight v) (weights vs) w) b) (complete_values vs m mode (spellings vs ++ r) r (part_right m (weight v) (weights vs) w) p.1 refl h))

-- ---- enough fuel

filled : (i : List ℕ) → IsIdentifier i → 0 < length i
filled [] p = absurd p
filled (a ∷ i) p = omega arith

some_lengths : (mode : Mode) (l : List ℕ) (n : ℕ) → IsLength mode l n → 0 < length l
some_lengths mode [] n p = absurd p
some_lengths mode (a ∷ l) n p = omega arith

form_lengths : (mode : Mode) (f : Form) (n : ℕ) → IsForm mode f n → 0 < length (lengths_of f)
form_lengths mode (Definite l) n p = some_lengths mode l n p
form_lengths mode Indefinite n p = omega arith

primitive_bound : (mode : Mode) (i l c : List ℕ) → IsValue mode (Primitive i l c) → weight (Primitive i l c) + 1 ≤ length (spelling (Primitive i l c)) + length (spelling (Primitive i l c))
unfolding weight
primitive_bound mode i l c p = omega (arith, filled i p.0, some_lengths mode l (length c) p.2, length-append i (l ++ c), length-append l c)

constructed_bound : (mode : Mode) (i : List ℕ) (f : Form) (vs : Values) → IsValue mode (Constructed i f vs) → weights vs ≤ 1 + (length (spellings vs) + length (spellings vs)) → weight (Constructed i f vs) + 1 ≤ length (spelling (Constructed i f vs)) + length (spelling (Constructed i f vs))
unfolding weight
constructed_bound mode i f vs p w = omega (arith, filled i p.0, form_lengths mode f (length (spellings vs)) p.2, length-append i (lengths_of f ++ (spellings vs ++ end_mark f)), length-append (lengths_of f) (spellings vs ++ end_mark f), length-append (spellings vs) (end_mark f))

end_bound : weights End ≤ 1 + (length (spellings End) + length (spellings End))
unfolding weight
end_bound = omega arith

cons_bound : (v : Value) (vs : Values) → weight v + 1 ≤ length (spelling v) + length (spelling v) → weights vs ≤ 1 + (length (spellings vs) + length (spellings vs)) → weights (v ▸ vs) ≤ 1 + (length (spellings (v ▸ vs)) + length (spellings (v ▸ vs)))
unfolding weight
cons_bound v vs a b = omega (arith, length-append (spelling v) (spellings vs))

mutual
  weight_bound : (v : Value) (mode : Mode) → IsValue mode v → weight v + 1 ≤ length (spelling v) + length (spelling v)
  weight_bound (Primitive i l c) mode p = primitive_bound mode i l c p
  weight_bound (Constructed i f vs) mode p = constructed_bound mode i f vs p (weights_bound vs mode p.3)

  weights_bound : (vs : Values) (mode : Mode) → AreValues mode vs → weights vs ≤ 1 + (length (spellings vs) + length (spellings vs))
  weights_bound End mode p = end_bound
  weights_bound (v ▸ vs) mode p = cons_bound v vs (weight_bound v mode p.0) (weights_bound vs mode p.1)

pub value_at-begins : (mode : Mode) (octets : List ℕ) (v : Value) (r : List ℕ) → Begins mode octets v r → value_at mode octets ≡ Some (v, r)
unfolding value_at
value_at-begins mode octets v r b =
    complete_value v (3 + length octets + length octets + length octets) mode octets r (omega (arith, weight_bound v mode b.lawful, simp length-append at (ap length b.parts))) b

pub value_at-sound : (mode : Mode) (octets : List ℕ) (v : Value) (r : List ℕ) → value_at mode octets ≡ Some (v, r) → Begins mode octets v r
unfolding value_at
value_at-sound mode octets v r e = sound_value (3 + length octets + length octets + length octets) mode octets v r e

-- ---- a grammar inside octets

pub decoded_ok : {X : Type 0} (grammar : Value → Option X) (mode : Mode) (octets : List ℕ) (x : X) → BeginsAs grammar mode octets x → decoded grammar mode octets ≡ Some x
unfolding decoded
decoded_ok grammar mode octets x b =
    bind_is (value_at mode octets) (λ v. grammar v.0) (b.value, b.rest) (value_at-begins mode octets b.value b.rest b.begins) ∙ b.reads

decoded_cases : {X : Type 0} (grammar : Value → Option X) (mode : Mode) (octets : List ℕ) (o : Option (Value × List ℕ)) → value_at mode octets ≡ o → RefusesOctets grammar mode octets Malformed → (o >>= λ v. grammar v.0) ≡ None
unfolding RefusesOctets ◌>>=◌
decoded_cases grammar mode octets None e n = refl
decoded_cases grammar mode octets (Some v) e n = n v.0 v.1 (value_at-sound mode octets v.0 v.1 e)

pub decoded_none : {X : Type 0} (grammar : Value → Option X) (mode : Mode) (octets : List ℕ) → RefusesOctets grammar mode octets Malformed → decoded grammar mode octets ≡ None
unfolding decoded
decoded_none grammar mode octets n = decoded_cases grammar mode octets (value_at mode octets) refl n
