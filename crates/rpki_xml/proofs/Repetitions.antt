-- Reading until it stops is reading again and again.
use Rattle.std.proofs.Common.{◌≡◌, ℕ, zero, suc, ◌<◌, Bool, ◌||◌, true, false, cond, eqb, List, [], ◌∷◌, length, Option, Some, None, refl, sym, ap, subst, ◌∙◌, arith}
use Rattle.std.specs.Prelude.{codes}
use Rattle.rpki_common.specs.Chaining.{◌>>=◌}
use Rattle.rpki_common.proofs.Truths.{none_some}
use Rattle.rpki_xml.specs.Content.{behind, is_white}
use Rattle.rpki_xml.specs.Element.{Attribute}
use Rattle.rpki_xml.specs.Lexing.{front_of, back_of, or_else, entity_at, any_entity_at, character_at, name_at, past_white, repeated, until, ends_at, value_in, quoted_at, attribute_at, no_attribute}
use Rattle.rpki_xml.specs.Name.{is_name, is_name_octet}
use Rattle.rpki_xml.specs.Runs.{RunsTo}

either : {X : Type 0} (P : X → Type 0) (b : Bool) (x y : X) → P x → P y → P (cond b x y)
either P true x y h k = h
either P false x y h k = k

-- ---- what is left is shorter

-- what is left, where something is there, has fewer octets than this
abbrev RestLess : ℕ → Option (List ℕ) → Type 0
RestLess n None = Unit {0}
RestLess n (Some b) = length b < n

abbrev Less : {X : Type 0} → ℕ → Option (X × List ℕ) → Type 0
Less n None = Unit {0}
Less n (Some x) = length x.1 < n

then_rest : {Y : Type 0} (m n : ℕ) (o : Option (List ℕ)) (f : List ℕ → Option (Y × List ℕ)) → RestLess m o → ((b : List ℕ) → length b < m → Less n (f b)) → Less n (o >>= f)
unfolding ◌>>=◌
then_rest m n None f h k = tt
then_rest m n (Some b) f h k = k b h

then_less : {X Y : Type 0} (m n : ℕ) (o : Option (X × List ℕ)) (f : X × List ℕ → Option (Y × List ℕ)) → Less m o → ((x : X) (b : List ℕ) → length b < m → Less n (f (x, b))) → Less n (o >>= f)
unfolding ◌>>=◌
then_less m n None f h k = tt
then_less m n (Some x) f h k = k x.0 x.1 h

or_less : {X : Type 0} (n : ℕ) (a b : Option (X × List ℕ)) → Less n a → Less n b → Less n (or_else a b)
or_less n None b h k = k
or_less n (Some x) b h k = h

behind_less : (front b : List ℕ) (n : ℕ) → length b < n → RestLess n (behind front b)
behind_less [] b n h = h
behind_less (c ∷ front) [] n h = tt
behind_less (c ∷ front) (d ∷ b) n h = either (RestLess n) (eqb d c) (behind front b) None (behind_less front b n (omega arith)) tt

back_less : (passes : ℕ → Bool) (b : List ℕ) (n : ℕ) → length b < n → length (back_of passes b) < n
back_less passes [] n h = h
back_less passes (c ∷ b) n h = let P : List ℕ → Type 0 = λ l. length l < n in either P (passes c) (back_of passes b) (c ∷ b) (back_less passes b n (omega arith)) h

entity_less : (name : List ℕ) (c : ℕ) (b : List ℕ) (n : ℕ) → length b < n → Less n (entity_at name c b)
entity_less name c b n h = then_rest n n (behind name b) (λ rest. Some (c, rest)) (behind_less name b n h) (λ rest k. k)

any_entity_less : (b : List ℕ) (n : ℕ) → length b < n → Less n (any_entity_at b)
unfolding any_entity_at
any_entity_less b n h =
    or_less n (entity_at (codes "amp;") 38 b) _ (entity_less (codes "amp;") 38 b n h)
    (or_less n (entity_at (codes "lt;") 60 b) _ (entity_less (codes "lt;") 60 b n h)
    (or_less n (entity_at (codes "gt;") 62 b) _ (entity_less (codes "gt;") 62 b n h)
    (or_less n (entity_at (codes "quot;") 34 b) _ (entity_less (codes "quot;") 34 b n h) (entity_less (codes "apos;") 39 b n h))))

-- a character takes an octet at least
pub character_less : (b : List ℕ) → Less (length b) (character_at b)
unfolding character_at
character_less [] = tt
character_less (c ∷ b) = go (eqb c 38) (eqb c 60)
  where
    go : (x y : Bool) → Less (length (c ∷ b)) (cond x (any_entity_at b) (cond y None (Some (c, b))))
    go true y = any_entity_less b (length (c ∷ b)) (omega arith)
    go false true = tt
    go false false = omega arith

character_within : (b : List ℕ) (n : ℕ) → length b < n → Less n (character_at b)
character_within b n h = go (character_at b) (character_less b)
  where
    go : (o : Option (ℕ × List ℕ)) → Less (length b) o → Less n o
    go None k = tt
    go (Some x) k = omega arith

repeated_less : {X : Type 0} (stops : List ℕ → Bool) (at : List ℕ → Option (X × List ℕ)) → ((b : List ℕ) (n : ℕ) → length b < n → Less n (at b)) → (k : ℕ) (b : List ℕ) (n : ℕ) → length b < n → Less n (repeated stops at k b)
repeated_less stops at each zero b n h = tt
repeated_less {X} stops at each (suc k) b n h =
    either (Less n) (stops b) (Some ([], b)) (at b >>= λ (y : X × List ℕ). repeated stops at k y.1 >>= λ more. Some (y.0 ∷ more.0, more.1)) h
    (then_less n n (at b) (λ y. repeated stops at k y.1 >>= λ more. Some (y.0 ∷ more.0, more.1)) (each b n h)
    (λ y c l. then_less n n (repeated stops at k c) (λ more. Some (y ∷ more.0, more.1)) (repeated_less stops at each k c n l) (λ ys d m. m)))

name_less : (b : List ℕ) (n : ℕ) → length b < n → Less n (name_at b)
unfolding name_at
name_less b n h = either (Less n) (is_name (front_of is_name_octet b)) (Some (front_of is_name_octet b, back_of is_name_octet b)) None (back_less is_name_octet b n h) tt

value_less : (quote : ℕ) (b : List ℕ) (n : ℕ) → length b < n → Less n (value_in quote b)
unfolding value_in until
value_less quote b n h =
    then_less n n (repeated (ends_at false quote) character_at (suc (length b)) b) _ (repeated_less (ends_at false quote) character_at character_within (suc (length b)) b n h)
    (λ v c k. then_rest n n (behind (quote ∷ []) c) (λ rest. Some (v, rest)) (behind_less (quote ∷ []) c n k) (λ rest l. l))

-- the quote that begins it is taken
quoted_less : (b : List ℕ) (n : ℕ) → length b < suc n → Less n (quoted_at b)
unfolding quoted_at
quoted_less [] n h = tt
quoted_less (c ∷ b) n h = either (Less n) (eqb c 34 || eqb c 39) (value_in c b) None (value_less c b n (omega arith)) tt

-- an attribute takes an octet at least
pub attribute_less : (b : List ℕ) → Less (length b) (attribute_at b)
unfolding attribute_at
attribute_less b =
    let k = suc (length b) in
    then_less k (length b) (name_at (past_white b)) _ (name_less (past_white b) k (back_less is_white b k (omega arith)))
    (λ n c h. then_rest k (length b) (behind (codes "=") (past_white c)) _ (behind_less (codes "=") (past_white c) k (back_less is_white c k h))
    (λ d l. then_less (length b) (length b) (quoted_at (past_white d)) (λ value. Some (record { name = n; value = value.0 }, value.1)) (quoted_less (past_white d) (length b) (back_less is_white d k l)) (λ v e m. m)))

-- ---- repetitions, both ways

pair_of : {X Y : Type 0} (p q : X × Y) → Some p ≡ Some q → p ≡ q
pair_of p q e = cc

nil_cons : {X : Type 0} (x : X) (xs : List X) → [] ≡ x ∷ xs → ⊥
nil_cons x xs e = cc

tail_of : {X : Type 0} (x y : X) (xs ys : List X) → x ∷ xs ≡ y ∷ ys → xs ≡ ys
tail_of x y xs ys e = cc

head_of : {X : Type 0} (x y : X) (xs ys : List X) → x ∷ xs ≡ y ∷ ys → x ≡ y
head_of x y xs ys e = cc

-- what the cases of `to_runs` say
ended : {X : Type 0} (stops : List ℕ → Bool) (at : List ℕ → Option (X × List ℕ)) (b rest : List ℕ) (xs : List X) → [] ≡ xs → b ≡ rest → stops b ≡ true → RunsTo stops at b xs rest
ended stops at b rest [] e is on = (is, on)
ended stops at b rest (x ∷ xs) e is on = absurd (nil_cons x xs e)

goes : {X : Type 0} (stops : List ℕ → Bool) (at : List ℕ → Option (X × List ℕ)) (b rest : List ℕ) (xs : List X) (x : X) (more : List X) (next : List ℕ) → x ∷ more ≡ xs → stops b ≡ false → at b ≡ Some (x, next) → RunsTo stops at next more rest → RunsTo stops at b xs rest
goes stops at b rest [] x more next e off is runs = absurd (nil_cons x more (sym e))
goes {X} stops at b rest (y ∷ ys) x more next e off is runs =
    (off, (next, is ∙ ap (λ (z : X). Some (z, next)) (head_of x y more ys e), subst (λ (l : List X). RunsTo stops at next l rest) (tail_of x y more ys e) runs))

abbrev Later : {X : Type 0} → (List ℕ → Bool) → (List ℕ → Option (X × List ℕ)) → ℕ → List ℕ → Type 0
Later {X} stops at n rest = (b : List ℕ) (xs : List X) → repeated stops at n b ≡ Some (xs, rest) → RunsTo stops at b xs rest

others : {X : Type 0} (stops : List ℕ → Bool) (at : List ℕ → Option (X × List ℕ)) (n : ℕ) (b rest : List ℕ) (xs : List X) → Later stops at n rest → (x : X) (next : List ℕ) (o : Option (List X × List ℕ)) → repeated stops at n next ≡ o → stops b ≡ false → at b ≡ Some (x, next) → ◌>>=◌ {B = List X × List ℕ} o (λ more. Some (x ∷ more.0, more.1)) ≡ Some (xs, rest) → RunsTo stops at b xs rest
unfolding ◌>>=◌
others stops at n b rest xs later x next None is off read e = absurd (none_some (xs, rest) e)
others {X} stops at n b rest xs later x next (Some more) is off read e =
    let p = pair_of (x ∷ more.0, more.1) (xs, rest) e in
    let same : more.1 ≡ rest = ap (λ (q : List X × List ℕ). q.1) p in
    goes stops at b rest xs x more.0 next (ap (λ (q : List X × List ℕ). q.0) p) off read (later next more.0 (is ∙ ap (λ (r : List ℕ). Some (more.0, r)) same))

one : {X : Type 0} (stops : List ℕ → Bool) (at : List ℕ → Option (X × List ℕ)) (n : ℕ) (b rest : List ℕ) (xs : List X) → Later stops at n rest → (o : Option (X × List ℕ)) → at b ≡ o → stops b ≡ false → ◌>>=◌ {B = List X × List ℕ} o (λ x. repeated stops at n x.1 >>= λ more. Some (x.0 ∷ more.0, more.1)) ≡ Some (xs, rest) → RunsTo stops at b xs rest
unfolding ◌>>=◌
one stops at n b rest xs later None is off e = absurd (none_some (xs, rest) e)
one stops at n b rest xs later (Some x) is off e = others stops at n b rest xs later x.0 x.1 (repeated stops at n x.1) refl off is e

either_way : {X : Type 0} (stops : List ℕ → Bool) (at : List ℕ → Option (X × List ℕ)) (n : ℕ) (b rest : List ℕ) (xs : List X) → Later stops at n rest → (s : Bool) → stops b ≡ s → cond {A = Option (List X × List ℕ)} s (Some ([], b)) (at b >>= λ x. repeated stops at n x.1 >>= λ more. Some (x.0 ∷ more.0, more.1)) ≡ Some (xs, rest) → RunsTo stops at b xs rest
either_way {X} stops at n b rest xs later true on e =
    let p = pair_of ([], b) (xs, rest) e in
    ended stops at b rest xs (ap (λ (q : List X × List ℕ). q.0) p) (ap (λ (q : List X × List ℕ). q.1) p) on
either_way stops at n b rest xs later false off e = one stops at n b rest xs later (at b) refl off e

pub to_runs : {X : Type 0} (stops : List ℕ → Bool) (at : List ℕ → Option (X × List ℕ)) (n : ℕ) (b : List ℕ) (xs : List X) (rest : List ℕ) → repeated stops at n b ≡ Some (xs, rest) → RunsTo stops at b xs rest
to_runs stops at zero b xs rest e = absurd (none_some (xs, rest) e)
to_runs stops at (suc n) b xs rest e = either_way stops at n b rest xs (λ c ys f. to_runs stops at n c ys rest f) (stops b) refl e

pub from_runs : {X : Type 0} (stops : List ℕ → Bool) (at : List ℕ → Option (X × List ℕ)) → ((b : List ℕ) → Less (length b) (at b)) → (n : ℕ) (b : List ℕ) (xs : List X) (rest : List ℕ) → length b < n → RunsTo stops at b xs rest → repeated stops at n b ≡ Some (xs, rest)
unfolding ◌>>=◌
from_runs stops at less zero b xs rest lt runs = absurd (omega arith)
from_runs {X} stops at less (suc n) b [] rest lt runs = let on = runs.1 in rw on (ap (λ (r : List ℕ). Some ([], r)) runs.0)
from_runs {X} stops at less (suc n) b (x ∷ xs) rest lt runs =
    let off = runs.0 in
    let next = runs.1.0 in
    let is = runs.1.1 in
    let shorter : length next < length b = subst (Less (length b)) is (less b) in
    let more = from_runs stops at less n next xs rest (omega arith) runs.1.2 in
    rw (off, is, more) refl

pub characters_both : (at_end : Bool) (stop : ℕ) (b text rest : List ℕ) → (until (ends_at at_end stop) character_at b ≡ Some (text, rest) → RunsTo (ends_at at_end stop) character_at b text rest) × (RunsTo (ends_at at_end stop) character_at b text rest → until (ends_at at_end stop) character_at b ≡ Some (text, rest))
unfolding until
characters_both at_end stop b text rest =
    (λ e. to_runs (ends_at at_end stop) character_at (suc (length b)) b text rest e, λ h. from_runs (ends_at at_end stop) character_at character_less (suc (length b)) b text rest (omega arith) h)

pub attributes_both : (b : List ℕ) (list : List Attribute) (rest : List ℕ) → (until no_attribute attribute_at b ≡ Some (list, rest) → RunsTo no_attribute attribute_at b list rest) × (RunsTo no_attribute attribute_at b list rest → until no_attribute attribute_at b ≡ Some (list, rest))
unfolding until
attributes_both b list rest =
    (λ e. to_runs no_attribute attribute_at (suc (length b)) b list rest e, λ h. from_runs no_attribute attribute_at attribute_less (suc (length b)) b list rest (omega arith) h)
