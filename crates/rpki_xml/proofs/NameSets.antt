-- Whether no two attributes have one whole name, told from the last one on with a set of the names that follow.
use Rattle.std.proofs.Common.{◌≡◌, ℕ, length, drop, Bool, ◌&&◌, ◌||◌, not, true, false, cond, List, [], ◌∷◌, ◌++◌, refl, sym, ap, ◌∙◌, append_assoc}
use Rattle.std.proofs.lemmas.List.{drop_at, drop_all, append-nil}
use Rattle.std.proofs.lemmas.Map.Text.{is_eq-slice_cmp}
use Rattle.std.proofs.lemmas.Slice.Eq.{bytes_eq-Decides}
use Rattle.std.specs.Borrow.{Bor}
use Rattle.std.specs.BTreeSet.{BTreeSet, contains, IsEmpty}
use Rattle.std.specs.Cmp.Lexicographic.{slice_cmp}
use Rattle.std.specs.List.{list_all, list_any}
use Rattle.std.specs.Ordering.{nat_cmp, is_eq}
use Rattle.std.proofs.Common.{Ordering, arith}
use Rattle.std.specs.Str.{bytes_eq}
use Rattle.rpki_xml.specs.Element.{Attribute}
use Rattle.rpki_xml.specs.Content.{is_distinct}

-- how the set orders names
abbrev pub text_cmp : Bor (List ℕ) → Bor (List ℕ) → Ordering
text_cmp x y = slice_cmp nat_cmp x.now y.now

-- the set has the names of these attributes, and no others
abbrev pub Has : BTreeSet (Bor (List ℕ)) → List Attribute → Type 0
Has names list = (q : Bor (List ℕ)) → contains text_cmp names q ≡ list_any (λ a. bytes_eq q.now a.name) list

-- the set has the names of the attributes behind those that are left, and no two of these have one name
pub record Seen (names : BTreeSet (Bor (List ℕ))) (attributes left : List Attribute) : Type 0 where
  pub split : left ++ drop (length left) attributes ≡ attributes
  pub has : Has names (drop (length left) attributes)
  pub distinct : is_distinct (drop (length left) attributes) ≡ true

none_has : (name : List ℕ) (list : List Attribute) → list_all (λ b. not (bytes_eq name b.name)) list ≡ not (list_any (λ b. bytes_eq name b.name) list)
none_has name [] = refl
none_has name (a ∷ list) = go (bytes_eq name a.name) (none_has name list)
  where
    go : (x : Bool) → list_all (λ b. not (bytes_eq name b.name)) list ≡ not (list_any (λ b. bytes_eq name b.name) list) → (not x && list_all (λ b. not (bytes_eq name b.name)) list) ≡ not (x || list_any (λ b. bytes_eq name b.name) list)
    go true e = refl
    go false e = e

other_way : (xs ys : List ℕ) → bytes_eq xs ys ≡ bytes_eq ys xs
other_way xs ys = go (bytes_eq xs ys) (bytes_eq ys xs) refl refl
  where
    go : (a b : Bool) → bytes_eq xs ys ≡ a → bytes_eq ys xs ≡ b → a ≡ b
    go true true e f = refl
    go false false e f = refl
    go true false e f = sym ((bytes_eq-Decides ys xs).1 (sym ((bytes_eq-Decides xs ys).0 e))) ∙ f
    go false true e f = sym e ∙ (bytes_eq-Decides xs ys).1 (sym ((bytes_eq-Decides ys xs).0 f))

behind_last : (attributes left more : List Attribute) (last : Attribute) → left ≡ more ++ last ∷ [] → left ++ drop (length left) attributes ≡ attributes
    → (drop (length more) attributes ≡ last ∷ drop (length left) attributes) × (more ++ drop (length more) attributes ≡ attributes)
behind_last attributes left more last is split =
    let rest = drop (length left) attributes in
    let whole : attributes ≡ more ++ last ∷ rest = sym split ∙ ap (λ (l : List Attribute). l ++ rest) is ∙ append_assoc more (last ∷ []) rest in
    let behind : drop (length more) attributes ≡ last ∷ rest = ap (drop (length more)) whole ∙ drop_at more (last ∷ rest) (length more) refl in
    (behind, ap (λ (l : List Attribute). more ++ l) behind ∙ sym whole)

false_behind : (front back : List Attribute) → is_distinct back ≡ false → is_distinct (front ++ back) ≡ false
false_behind [] back e = e
false_behind (a ∷ front) back e = ap (λ (x : Bool). list_all (λ b. not (bytes_eq a.name b.name)) (front ++ back) && x) (false_behind front back e) ∙ no_matter (list_all (λ b. not (bytes_eq a.name b.name)) (front ++ back))
  where
    no_matter : (x : Bool) → (x && false) ≡ false
    no_matter true = refl
    no_matter false = refl

pub starts : (names : BTreeSet (Bor (List ℕ))) (attributes : List Attribute) → IsEmpty names → Seen names attributes attributes
starts names attributes empty =
    let nothing = drop_all (length attributes) attributes (omega arith) in
    record {
      split = ap (λ (l : List Attribute). attributes ++ l) nothing ∙ append-nil attributes;
      has = λ q. ap (list_any (λ k. is_eq (text_cmp q k))) empty ∙ ap (list_any (λ a. bytes_eq q.now a.name)) (sym nothing);
      distinct = ap is_distinct nothing;
    }

-- a name that the set has already
pub repeated : (names : BTreeSet (Bor (List ℕ))) (attributes left more : List Attribute) (last : Attribute) (key : Bor (List ℕ)) (added : Bool) → Seen names attributes left → left ≡ more ++ last ∷ [] → key.now ≡ last.name
    → added ≡ not (contains text_cmp names key) → added ≡ false → is_distinct attributes ≡ false
repeated names attributes left more last key added seen is name added-is off =
    let rest = drop (length left) attributes in
    let b = behind_last attributes left more last is seen.split in
    let there : not (list_any (λ a. bytes_eq last.name a.name) rest) ≡ false = ap (λ (x : List ℕ). not (list_any (λ a. bytes_eq x a.name) rest)) (sym name) ∙ ap not (sym (seen.has key)) ∙ sym added-is ∙ off in
    let two : is_distinct (last ∷ rest) ≡ false = ap (λ (x : Bool). x && is_distinct rest) (none_has last.name rest ∙ there) in
    ap is_distinct (sym b.1 ∙ ap (λ (l : List Attribute). more ++ l) b.0) ∙ false_behind more (last ∷ rest) two

-- a name that the set did not have
pub one_more : (names new : BTreeSet (Bor (List ℕ))) (attributes left more : List Attribute) (last : Attribute) (key : Bor (List ℕ)) (added : Bool) → Seen names attributes left → left ≡ more ++ last ∷ [] → key.now ≡ last.name
    → added ≡ not (contains text_cmp names key) → added ≡ true → ((q : Bor (List ℕ)) → contains text_cmp new q ≡ cond (is_eq (text_cmp key q)) true (contains text_cmp names q)) → Seen new attributes more
one_more names new attributes left more last key added seen is name added-is on updates =
    let rest = drop (length left) attributes in
    let b = behind_last attributes left more last is seen.split in
    let there : not (list_any (λ a. bytes_eq last.name a.name) rest) ≡ true = ap (λ (x : List ℕ). not (list_any (λ a. bytes_eq x a.name) rest)) (sym name) ∙ ap not (sym (seen.has key)) ∙ sym added-is ∙ on in
    record {
      split = b.1;
      has = λ q. updates q ∙ ap (λ (x : Bool). cond x true (contains text_cmp names q)) (is_eq-slice_cmp key.now q.now ∙ other_way key.now q.now ∙ ap (bytes_eq q.now) name) ∙ ap (cond (bytes_eq q.now last.name) true) (seen.has q)
          ∙ or_is (bytes_eq q.now last.name) (list_any (λ a. bytes_eq q.now a.name) rest) ∙ ap (list_any (λ a. bytes_eq q.now a.name)) (sym b.0);
      distinct = ap is_distinct b.0 ∙ ap (λ (x : Bool). x && is_distinct rest) (none_has last.name rest ∙ there) ∙ seen.distinct;
    }
  where
    or_is : (x y : Bool) → cond x true y ≡ (x || y)
    or_is true y = refl
    or_is false y = refl

pub all_seen : (names : BTreeSet (Bor (List ℕ))) (attributes left : List Attribute) → Seen names attributes left → length left ≡ 0 → is_distinct attributes ≡ true
all_seen names attributes [] seen zero = seen.distinct
all_seen names attributes (a ∷ left) seen zero = absurd (omega arith)
