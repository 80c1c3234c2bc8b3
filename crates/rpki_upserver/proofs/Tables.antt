-- A table in which one class changes.
use Rattle.std.proofs.Common.{◌≡◌, ◌↔◌, ◌||◌, ◌<◌, ◌≤◌, ◌+◌, ◌-◌, ◌++◌, ℕ, IsTrue, Bool, true, false, if◌then◌else◌, Option, None, Some, List, [], ◌∷◌, length, get_or, set, take, drop, suc, zero, refl, sym, ap, subst, ◌∙◌, arith}
use Rattle.std.specs.Prelude.{is_some, position}
use Rattle.std.specs.List.{AllByRecursion, list_any}
use Rattle.std.specs.Str.{bytes_eq}
use Rattle.std.proofs.lemmas.List.{take_all}
use Rattle.std.proofs.lemmas.List.Quantifiers.{position-Some}
use Rattle.std.proofs.lemmas.Slice.Eq.{bytes_eq-Decides}
use Rattle.rpki_ca.proofs.Stepping.{take_more}
use Rattle.rpki_xml.specs.Lettered.{AreOctets}
use Rattle.rpki_provisioning.specs.Writable.{IsWritableClass}
use Rattle.rpki_upserver.specs.Table.{AreDistinctClasses, AreWritable, ClassState, IsParent, Table, change, class_named, entitled, is_named}
use Rattle.rpki_upserver.proofs.Places.{IsFirst, behind_first, first_fails, named_there, no_place, some_placed, unplaced, unplaced_unfound}

-- ---- the class of a name, by its place

pub named_at : (table : Table) (name : List ℕ) (place : ℕ) (c : ClassState) → position (is_named name) table ≡ Some place → c ≡ get_or table place c → class_named name table ≡ Some c
named_at table name place c at is = named_there table name place c (position-Some (is_named name) table place c at) ∙ ap (λ (x : ClassState). Some x) (sym is)

pub unnamed : (table : Table) (name : List ℕ) → position (is_named name) table ≡ None → class_named name table ≡ None
unnamed table name at = unplaced_unfound (is_named name) table at

-- ---- it changes

unchanged : (table : Table) (name : List ℕ) (f : ClassState → ClassState) → list_any (is_named name) table ≡ false → change name f table ≡ table
unchanged [] name f none = refl
unchanged (c ∷ more) name f none = one (is_named name c) none (unchanged more name f)
  where
    one : (t : Bool) → (t || list_any (is_named name) more) ≡ false → (list_any (is_named name) more ≡ false → change name f more ≡ more) → (if t then f c else c) ∷ change name f more ≡ c ∷ more
    one true h rest = cc
    one false h rest = ap (λ (l : Table). c ∷ l) (rest h)

changed_there : (table : Table) (name : List ℕ) (i : ℕ) (d : ClassState) (f : ClassState → ClassState) → AreDistinctClasses table → IsFirst (is_named name) table i d → set table i (f (get_or table i d)) ≡ change name f table
changed_there [] name i d f distinct h = absurd (no_place i h.0)
changed_there (c ∷ more) name zero d f distinct h =
    let is : c.class_name ≡ name = (bytes_eq-Decides c.class_name name).0 h.1 in
    rw h.1 (ap (λ (l : Table). f c ∷ l) (sym (unchanged more name f (subst (λ (n : List ℕ). list_any (is_named n) more ≡ false) is distinct.0))))
changed_there (c ∷ more) name (suc i) d f distinct h =
    let other = first_fails (is_named name) c more i d h in
    rw other (ap (λ (l : Table). c ∷ l) (changed_there more name i d f distinct.1 (behind_first (is_named name) c more i d h)))

pub changed_at : (table : Table) (name : List ℕ) (place : ℕ) (c new : ClassState) (f : ClassState → ClassState) → AreDistinctClasses table → position (is_named name) table ≡ Some place → c ≡ get_or table place c → new ≡ f c → set table place new ≡ change name f table
changed_at table name place c new f distinct at is new_is =
    ap (λ (x : ClassState). set table place x) (new_is ∙ ap f is) ∙ changed_there table name place c f distinct (position-Some (is_named name) table place c at)

-- ---- of the first classes, and of all

pub all_first : (P : ClassState → Type 0) (table : Table) (i : ℕ) (c : ClassState) → i < length table → c ≡ get_or table i c → AllByRecursion P (take i table) → P c → AllByRecursion P (take (i + 1) table)
all_first P table i c lt is all here = subst (AllByRecursion P) (sym (take_more table i c lt is)) (joined (take i table) all)
  where
    joined : (xs : Table) → AllByRecursion P xs → AllByRecursion P (xs ++ c ∷ [])
    joined [] h = (here, tt)
    joined (x ∷ xs) h = (h.0, joined xs h.1)

pub all_whole : (P : ClassState → Type 0) (table : Table) (i : ℕ) → length table ≤ i → AllByRecursion P (take i table) → AllByRecursion P table
all_whole P table i le all = subst (AllByRecursion P) (take_all i table le) all

-- ---- what holds of all classes still does

pub all_set : (P : ClassState → Type 0) (table : Table) (place : ℕ) (new : ClassState) → AllByRecursion P table → P new → AllByRecursion P (set table place new)
all_set P [] place new all here = all
all_set P (c ∷ more) zero new all here = (here, all.1)
all_set P (c ∷ more) (suc i) new all here = (all.0, all_set P more i new all.1 here)

pub all_at : (P : ClassState → Type 0) (table : Table) (place : ℕ) (c d : ClassState) → place < length table → c ≡ get_or table place d → AllByRecursion P table → P c
all_at P [] place c d lt is all = absurd (no_place place lt)
all_at P (x ∷ more) zero c d lt is all = subst P (sym is) all.0
all_at P (x ∷ more) (suc i) c d lt is all = all_at P more i c d (omega (arith, lt)) is all.1

named_alike : (n : List ℕ) (table : Table) (place : ℕ) (new d : ClassState) → place < length table → new.class_name ≡ (get_or table place d).class_name → list_any (is_named n) (set table place new) ≡ list_any (is_named n) table
named_alike n [] place new d lt same = absurd (no_place place lt)
named_alike n (c ∷ more) zero new d lt same = ap (λ (x : List ℕ). bytes_eq x n || list_any (is_named n) more) same
named_alike n (c ∷ more) (suc i) new d lt same = ap (λ (b : Bool). is_named n c || b) (named_alike n more i new d (omega (arith, lt)) same)

pub distinct_set : (table : Table) (place : ℕ) (new d : ClassState) → place < length table → new.class_name ≡ (get_or table place d).class_name → AreDistinctClasses table → AreDistinctClasses (set table place new)
distinct_set [] place new d lt same distinct = distinct
distinct_set (c ∷ more) zero new d lt same distinct = (subst (λ (n : List ℕ). list_any (is_named n) more ≡ false) (sym same) distinct.0, distinct.1)
distinct_set (c ∷ more) (suc i) new d lt same distinct =
    let below : i < length more = omega (arith, lt) in
    (named_alike c.class_name more i new d below same ∙ distinct.0, distinct_set more i new d below same distinct.1)

pub same_set : (table : Table) (place : ℕ) (c new : ClassState) → place < length table → c ≡ get_or table place c → new ≡ c → set table place new ≡ table
same_set [] place c new lt is new_is = refl
same_set (x ∷ more) zero c new lt is new_is = ap (λ (y : ClassState). y ∷ more) (new_is ∙ is)
same_set (x ∷ more) (suc i) c new lt is new_is = ap (λ (l : Table). x ∷ l) (same_set more i c new (omega (arith, lt)) is new_is)

-- a parent keeps what holds of it where a class changes that keeps its name and what holds of it
pub parent_set : (me child : List ℕ) (table : Table) (place : ℕ) (c new : ClassState) → place < length table → c ≡ get_or table place c → new.class_name ≡ c.class_name → (IsWritableClass (entitled c) → IsWritableClass (entitled new))
    → IsParent me child table × AreWritable table → IsParent me child (set table place new) × AreWritable (set table place new)
parent_set me child table place c new lt is same writable h = (
  record {
    me_is = h.0.me_is;
    child_is = h.0.child_is;
    distinct = distinct_set table place new c lt (same ∙ ap (λ (x : ClassState). x.class_name) is) h.0.distinct;
    names = all_set (λ x. AreOctets x.class_name) table place new h.0.names (subst AreOctets (sym same) (all_at (λ x. AreOctets x.class_name) table place c c lt is h.0.names));
  },
  all_set (λ x. IsWritableClass (entitled x)) table place new h.1 (writable (all_at (λ x. IsWritableClass (entitled x)) table place c c lt is h.1)),
)

-- ---- distinct names, one class behind the other

parts : (rest : Table) (c : ClassState) → 1 ≤ length rest → c ≡ get_or rest 0 c → rest ≡ c ∷ take (length rest - 1) (drop 1 rest)
parts [] c some is = absurd (no_place 0 (omega (arith, some)))
parts (x ∷ xs) c some is = ap (λ (y : ClassState). y ∷ xs) (sym is) ∙ ap (λ (l : Table). c ∷ l) (sym (take_all (length (x ∷ xs) - 1) xs (omega arith)))

module _ (all rest : Table) (c : ClassState) (name : List ℕ) (o : Option ℕ) where
  named_again : name ≡ c.class_name → o ≡ position (is_named name) (take (length rest - 1) (drop 1 rest)) → is_some o ≡ true → list_any (is_named c.class_name) (take (length rest - 1) (drop 1 rest)) ≡ true
  named_again same at some = subst (λ (n : List ℕ). list_any (is_named n) (take (length rest - 1) (drop 1 rest)) ≡ true) same ((some_placed (is_named name) (take (length rest - 1) (drop 1 rest)) o at).0 some)

  pub two_alike : (AreDistinctClasses rest ↔ AreDistinctClasses all) → 1 ≤ length rest → c ≡ get_or rest 0 c → name ≡ c.class_name → o ≡ position (is_named name) (take (length rest - 1) (drop 1 rest)) → is_some o ≡ true → IsTrue false ↔ AreDistinctClasses all
  two_alike so_far some is same at is_there = (
    λ h. let e : false ≡ true = h in cc,
    λ distinct. let first = (subst AreDistinctClasses (parts rest c some is) (so_far.1 distinct)).0 in
        let e : true ≡ false = sym (named_again same at is_there) ∙ first in cc,
  )

  pub still_distinct : (AreDistinctClasses rest ↔ AreDistinctClasses all) → 1 ≤ length rest → c ≡ get_or rest 0 c → name ≡ c.class_name → o ≡ position (is_named name) (take (length rest - 1) (drop 1 rest)) → is_some o ≡ false → AreDistinctClasses (take (length rest - 1) (drop 1 rest)) ↔ AreDistinctClasses all
  still_distinct so_far some is same at none = (
    λ distinct. so_far.0 (subst AreDistinctClasses (sym (parts rest c some is)) (unnamed_first, distinct)),
    λ distinct. (subst AreDistinctClasses (parts rest c some is) (so_far.1 distinct)).1,
  )
    where
      unnamed_first : list_any (is_named c.class_name) (take (length rest - 1) (drop 1 rest)) ≡ false
      unnamed_first = subst (λ (n : List ℕ). list_any (is_named n) (take (length rest - 1) (drop 1 rest)) ≡ false) same (without_some o at none)
        where
          without_some : (p : Option ℕ) → p ≡ position (is_named name) (take (length rest - 1) (drop 1 rest)) → is_some p ≡ false → list_any (is_named name) (take (length rest - 1) (drop 1 rest)) ≡ false
          without_some None e n = unplaced (is_named name) (take (length rest - 1) (drop 1 rest)) (sym e)
          without_some (Some i) e n = let d : true ≡ false = n in cc
