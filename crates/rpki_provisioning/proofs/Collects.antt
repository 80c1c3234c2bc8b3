-- Items that pass by one at a time, as in a loop.
use Rattle.std.proofs.Common.{◌≡◌, Bool, true, false, cond, Option, Some, None, List, [], ◌∷◌, ◌++◌, refl, sym, ap, ◌∙◌}
use Rattle.std.specs.Prelude.{filter, if◌then◌else◌}
use Rattle.rpki_common.specs.Chaining.{◌>>=◌}
use Rattle.rpki_common.specs.Collecting.{collect}
use Rattle.rpki_common.specs.Items.{only}
use Rattle.rpki_common.proofs.Truths.{some_none}
use Rattle.rpki_sets.specs.Texts.{read_all}
use Rattle.rpki_xml.specs.Tables.{require}
use Rattle.rpki_xml.proofs.Each.{with_front}
use Rattle.std.proofs.lemmas.List.{append-nil}
use Rattle.std.proofs.Common.{append_assoc}
use Rattle.rpki_provisioning.specs.Gathering.{each_slot}

-- ---- a step, and the end

pub step_more : {A S : Type 0} (step : S → A → Option S) (found next : S) (list rest : List A) (a : A) (total : Option S) → list ≡ a ∷ rest → step found a ≡ Some next → collect step found list ≡ total → collect step next rest ≡ total
unfolding collect ◌>>=◌
step_more step found next list rest a total is read so_far = sym (ap (collect step found) is ∙ ap (λ o. o >>= λ d. collect step d rest) read) ∙ so_far

pub step_none : {A S : Type 0} (step : S → A → Option S) (found : S) (list rest : List A) (a : A) (total : Option S) → list ≡ a ∷ rest → step found a ≡ None → collect step found list ≡ total → total ≡ None
unfolding collect ◌>>=◌
step_none step found list rest a total is read so_far = sym so_far ∙ ap (collect step found) is ∙ ap (λ o. o >>= λ d. collect step d rest) read

pub step_done : {A S : Type 0} (step : S → A → Option S) (found : S) (list : List A) (total : Option S) → list ≡ [] → collect step found list ≡ total → total ≡ Some found
unfolding collect
step_done step found list total none so_far = sym so_far ∙ ap (collect step found) none

-- ---- items that are read and kept

pub regroup : {X : Type 0} (front : List X) (x : X) (read : Option (List X)) → with_front front (read >>= λ xs. Some (x ∷ xs)) ≡ with_front (front ++ x ∷ []) read
unfolding ◌>>=◌
regroup {X} front x (Some xs) = ap (λ (ys : List X). Some ys) (sym (append_assoc front (x ∷ []) xs))
regroup front x None = refl

kept_after : {A X : Type 0} (test : A → Bool) (read : A → Option X) (front : List X) (b : Bool) (o : Option X) (a : A) (more : List A) → read a ≡ o → ((xs : List X) → collect (each_slot test read) xs more ≡ with_front xs (read_all read (filter test more)))
    → ((if b then (o >>= λ x. Some (front ++ x ∷ [])) else Some front) >>= λ s. collect (each_slot test read) s more) ≡ with_front front (read_all read (cond b (a ∷ filter test more) (filter test more)))
unfolding ◌>>=◌ read_all
kept_after test read front false o a more e h = h front
kept_after test read front true None a more e h = rw e refl
kept_after test read front true (Some x) a more e h = rw e (h (front ++ x ∷ []) ∙ sym (regroup front x (read_all read (filter test more))))

kept : {A X : Type 0} (test : A → Bool) (read : A → Option X) (front : List X) (list : List A) → collect (each_slot test read) front list ≡ with_front front (read_all read (filter test list))
unfolding collect each_slot read_all ◌>>=◌
kept {A} {X} test read front [] = ap (λ (xs : List X). Some xs) (sym (append-nil front))
kept test read front (a ∷ more) = kept_after test read front (test a) (read a) a more refl (λ xs. kept test read xs more)

pub front_nothing : {X : Type 0} (read : Option (List X)) → with_front [] read ≡ read
unfolding ◌>>=◌
front_nothing (Some xs) = refl
front_nothing None = refl

-- those that pass the test are read
pub kept_are : {A X : Type 0} (test : A → Bool) (read : A → Option X) (list : List A) → collect (each_slot test read) [] list ≡ read_all read (filter test list)
kept_are test read list = kept test read [] list ∙ front_nothing (read_all read (filter test list))

-- ---- no others

only_next : {A : Type 0} (test : A → Bool) (b : Bool) (more : List A) → b ≡ true → (if b then only test more else None) ≡ only test more
only_next test true more e = refl
only_next test false more e = cc

pub only_more : {A : Type 0} (test : A → Bool) (list rest : List A) (a : A) (total : Option (Unit {0})) → list ≡ a ∷ rest → require (test a) ≡ Some tt → only test list ≡ total → only test rest ≡ total
unfolding only
only_more test list rest a total is read so_far = sym (ap (only test) is ∙ only_next test (test a) rest (passed (test a) read)) ∙ so_far
  where
    passed : (b : Bool) → require b ≡ Some tt → b ≡ true
    passed true e = refl
    passed false e = cc

only_none : {A : Type 0} (test : A → Bool) (b : Bool) (more : List A) → require b ≡ None → (if b then only test more else None) ≡ None
only_none test true more e = absurd (some_none tt e)
only_none test false more e = refl

pub only_fails : {A : Type 0} (test : A → Bool) (list rest : List A) (a : A) (total : Option (Unit {0})) → list ≡ a ∷ rest → require (test a) ≡ None → only test list ≡ total → total ≡ None
unfolding only
only_fails test list rest a total is read so_far = sym so_far ∙ ap (only test) is ∙ only_none test (test a) rest read

pub only_done : {A : Type 0} (test : A → Bool) (list : List A) (total : Option (Unit {0})) → list ≡ [] → only test list ≡ total → total ≡ Some tt
unfolding only
only_done test list total none so_far = sym so_far ∙ ap (only test) none
