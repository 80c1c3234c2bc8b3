-- What is read are runs of numbers of the kind, so that their union is a set of the kind.
use Rattle.std.proofs.Common.{◌≡◌, ℕ, ◌+◌, ◌-◌, ◌^◌, ◌<◌, ◌≤◌, inl, inr, false, ◌&&◌, eqb, ltb, leb, Option, None, Some, Result, Err, List, [], ◌∷◌, length, refl, subst, ap, arith}
use Rattle.std.specs.List.{slice_split}
use Rattle.std.specs.Str.{all_ascii_digits}
use Rattle.std.specs.Str.Parse.{digits_value}
use Rattle.std.specs.Prelude.{IsSomeAnd}
use Rattle.std.proofs.lemmas.Bool.{cond_both, leb-true, ltb-true, and_parts}
use Rattle.std.proofs.lemmas.Nat.{pow_pos}
use Rattle.rpki_common.specs.Chaining.{◌>>=◌}
use Rattle.rpki_sets.specs.declared.run.Run.{Run}
use Rattle.rpki_sets.specs.Runs.{SameNumbers, AllOrdered, IsWithin, IsSet, union}
use Rattle.rpki_sets.specs.Texts.{cut, trimmed, parts, read_all, decimal_below}
use Rattle.rpki_sets.specs.Prefixes.{prefix}
use Rattle.rpki_sets.specs.Kinds.{Kind, IsLawfulKind, run_from, range_of, range, prefix_of, prefix_or_range, item, spaced_item, runs_of, blocks_of}
use Rattle.rpki_sets.proofs.RunLemmas.{IsMaximal-union, Has-union}
use Rattle.rpki_sets.proofs.PrefixLemmas.{block_below}

-- the run ends no earlier than it begins, and its numbers have no more bits
pub record IsFit (width : ℕ) (run : Run) : Type 0 where
  pub ordered : run.first ≤ run.last
  pub within : run.last < 2 ^ width

pub bind_some : {A B P : Type 0} (o : Option A) (f : A → Option B) (y : B) → (o >>= f) ≡ Some y → ((x : A) → o ≡ Some x → f x ≡ Some y → P) → P
unfolding ◌>>=◌
bind_some None f y e give = absurd (cc)
bind_some (Some x) f y e give = give x refl e

-- one error, whatever the call gives where it succeeds
pub same_err : {T U E : Type 0} (e f : E) → ◌≡◌ {A = Result T E} (Err e) (Err f) → ◌≡◌ {A = Result U E} (Err e) (Err f)
same_err e f h = let same : e ≡ f = cc in ap Err same

run_from-fits : (width a b : ℕ) (run : Run) → b < 2 ^ width → run_from a b ≡ Some run → IsFit width run
run_from-fits width a b run below =
    cond_both (leb a b) _ _ (λ o. o ≡ Some run → IsFit width run)
    (λ le e.
    let first : a ≡ run.first = cc in
    let last : b ≡ run.last = cc in
    let up = leb-true a b le in
    record { ordered = omega arith; within = rw (← last) below })
    (λ le e. absurd (cc))

pub decimal_below-below : (limit : ℕ) (text : List ℕ) (n : ℕ) → decimal_below limit text ≡ Some n → n < limit
unfolding decimal_below
decimal_below-below limit text n =
    cond_both (ltb 0 (length text) && all_ascii_digits text && ltb (digits_value 10 text) limit) (Some (digits_value 10 text)) None (λ o. o ≡ Some n → n < limit)
    (λ t e.
    let value : digits_value 10 text ≡ n = cc in
    let last = and_parts (ltb 0 (length text) && all_ascii_digits text) (ltb (digits_value 10 text) limit) t in
    rw (← value) (ltb-true (digits_value 10 text) limit last.1))
    (λ t e. absurd (cc))

prefix-fits : (width address len : ℕ) → len ≤ width → address < 2 ^ width → IsFit width (prefix width address len)
prefix-fits width address len within below =
    let block = block_below address (width - len) width (omega arith) below in
    let positive = pow_pos (width - len) in
    record { ordered = omega arith; within = omega arith }

module _ (kind : Kind) (lawful : IsLawfulKind kind) where
  range_of-fits : (text : List ℕ) (cut_in : Option (List ℕ × List ℕ)) (run : Run) → range_of kind text cut_in ≡ Some run → IsFit kind.width run
  range_of-fits text None run e =
      bind_some (kind.number text) (λ n. run_from n n) run e
      (λ n h g. run_from-fits kind.width n n run (lawful.within text n h) g)
  range_of-fits text (Some ends) run e =
      bind_some (kind.number ends.0) (λ first. kind.number ends.1 >>= λ last. run_from first last) run e
      (λ first h g. bind_some (kind.number ends.1) (λ last. run_from first last) run g
      (λ last k f. run_from-fits kind.width first last run (lawful.within ends.1 last k) f))

  range-fits : (text : List ℕ) (run : Run) → range kind text ≡ Some run → IsFit kind.width run
  unfolding range
  range-fits text run e = range_of-fits text (cut 45 text) run e

  prefix_of-fits : (ends : List ℕ × List ℕ) (run : Run) → prefix_of kind ends ≡ Some run → IsFit kind.width run
  prefix_of-fits ends run e =
      bind_some (kind.number ends.0) (λ address. decimal_below (kind.width + 1) ends.1 >>= λ len. Some (prefix kind.width address len)) run e
      (λ address h g. bind_some (decimal_below (kind.width + 1) ends.1) (λ len. Some (prefix kind.width address len)) run g
      (λ len k f.
      let is : prefix kind.width address len ≡ run = cc in
      let short = decimal_below-below (kind.width + 1) ends.1 len k in
      rw (← is) (prefix-fits kind.width address len (omega arith) (lawful.within ends.0 address h))))

  prefix_or_range-fits : (text : List ℕ) (cut_in : Option (List ℕ × List ℕ)) (run : Run) → prefix_or_range kind text cut_in ≡ Some run → IsFit kind.width run
  prefix_or_range-fits text None run e = range-fits text run e
  prefix_or_range-fits text (Some ends) run e = prefix_of-fits ends run e

  pub item-fits : (text : List ℕ) (run : Run) → item kind text ≡ Some run → IsFit kind.width run
  unfolding item
  item-fits text run =
      cond_both kind.has_prefixes (prefix_or_range kind text (cut 47 text)) (range kind text) (λ o. o ≡ Some run → IsFit kind.width run)
      (λ p e. prefix_or_range-fits text (cut 47 text) run e)
      (λ p e. range-fits text run e)

  -- ---- all runs of a text

  pub AllFit : List Run → Type 0
  AllFit [] = Unit {0}
  AllFit (run ∷ more) = IsFit kind.width run × AllFit more

  AllFit-read_all : (texts : List (List ℕ)) (runs : List Run) → read_all (spaced_item kind) texts ≡ Some runs → AllFit runs
  unfolding read_all AllFit
  AllFit-read_all [] runs e = let is : [] ≡ runs = cc in rw (← is) tt
  AllFit-read_all (text ∷ more) runs e =
      bind_some (spaced_item kind text) (λ b. read_all (spaced_item kind) more >>= λ found. Some (b ∷ found)) runs e
      (λ run h g. bind_some (read_all (spaced_item kind) more) (λ found. Some (run ∷ found)) runs g
      (λ found k f.
      let is : run ∷ found ≡ runs = cc in
      let fit = item-fits (trimmed text) run h in
      let rec = AllFit-read_all more found k in
      subst AllFit is (fit, rec)))

  pub AllFit-runs_of : (text : List ℕ) (runs : List Run) → runs_of kind text ≡ Some runs → AllFit runs
  unfolding runs_of
  AllFit-runs_of text runs e = AllFit-read_all (parts text) runs e

  pub AllOrdered-fit : (runs : List Run) → AllFit runs → AllOrdered runs
  unfolding AllFit
  AllOrdered-fit [] fit = tt
  AllOrdered-fit (run ∷ more) fit = (fit.0.ordered, AllOrdered-fit more fit.1)

  IsWithin-fit : (runs : List Run) → AllFit runs → IsWithin kind.width runs
  unfolding AllFit
  IsWithin-fit [] fit n h = absurd h
  IsWithin-fit (run ∷ more) fit n (inl held) = let top = fit.0.within in omega arith
  IsWithin-fit (run ∷ more) fit n (inr later) = IsWithin-fit more fit.1 n later

  -- the union of what is read is a set of the kind
  pub IsSet-union : (runs : List Run) → AllFit runs → IsSet kind.width (union runs)
  IsSet-union runs fit =
      let ordered = AllOrdered-fit runs fit in record {
        maximal = IsMaximal-union runs ordered;
        within = λ n h. IsWithin-fit runs fit n ((Has-union runs ordered n).0 h);
      }

module _ (kind : Kind) (text : List ℕ) where
  pub runs_of-blank : (runs : List Run) → length (trimmed text) ≡ 0 → runs ≡ [] → runs_of kind text ≡ Some runs
  unfolding runs_of parts read_all
  runs_of-blank runs e none = rw (e, none) refl

  pub runs_of-parts : eqb (length (trimmed text)) 0 ≡ false → runs_of kind text ≡ read_all (spaced_item kind) (slice_split (λ octet. eqb octet 44) text)
  unfolding runs_of parts
  runs_of-parts e = rw e refl

  pub blocks_of-some : (runs : List Run) → runs_of kind text ≡ Some runs → blocks_of kind text ≡ Some (union runs)
  unfolding blocks_of ◌>>=◌
  blocks_of-some runs e = rw e refl

  pub blocks_of-none : runs_of kind text ≡ None → blocks_of kind text ≡ None
  unfolding blocks_of ◌>>=◌
  blocks_of-none e = rw e refl

  -- the numbers of the union are those of the items
  pub numbers_of_runs : (lawful : IsLawfulKind kind) (runs blocks : List Run) → runs_of kind text ≡ Some runs → blocks ≡ union runs → IsSomeAnd (runs_of kind text) (λ found. SameNumbers blocks found)
  numbers_of_runs lawful runs blocks e is =
      let ordered = AllOrdered-fit kind lawful runs (AllFit-runs_of kind lawful text runs e) in
      rw (e, is) (Has-union runs ordered)
