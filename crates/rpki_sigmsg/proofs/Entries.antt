-- Reading a list of values of one kind, those that were read so far standing in front.
use Rattle.std.proofs.Common.{◌≡◌, ℕ, ◌+◌, Option, None, Some, List, [], ◌∷◌, ◌++◌, refl, sym, ap, subst, append_assoc}
use Rattle.std.proofs.lemmas.List.{append-nil}
use Rattle.rpki_common.specs.Chaining.{◌>>=◌}
use Rattle.rpki_common.proofs.Collected.{bind_under}
use Rattle.rpki_der.specs.Value.{Value, Values}
use Rattle.rpki_der.specs.Position.{Position, top, Leaves}
use Rattle.rpki_der.specs.Grammar.{every}
use Rattle.rpki_der.specs.Held.{held, up_to}
use Rattle.rpki_der.specs.Ticks.{marks, CountedOne, CountedReads}
use Rattle.rpki_der.proofs.Counting.{CountedContinues, continues_item, reads_end}
use Rattle.rpki_der.proofs.Leftovers.{continues_as, reads_as, stops_as}
use Rattle.rpki_der.proofs.Holding.{reads_held}

-- those in front, and more
abbrev pub and_more : {X : Type 0} → List X → List X → Option (List X)
and_more xs more = Some (xs ++ more)

all_of : {X : Type 0} (o : Option (List X)) → (o >>= and_more []) ≡ o
unfolding ◌>>=◌
all_of None = refl
all_of (Some xs) = refl

pub none_yet : {X : Type 0} (field : Value → Option X) (p : Position) (b : ℕ) → CountedContinues 1 (every field) p b (λ vs. every field vs >>= and_more []) p b
none_yet field p b = continues_as _ _ _ _ _ (λ vs. all_of (every field vs))

moved : {X : Type 0} (field : Value → Option X) (xs : List X) (x : X) (vs : Values) → (every field vs >>= λ more. and_more xs (x ∷ more)) ≡ (every field vs >>= and_more (xs ++ x ∷ []))
moved field xs x vs = bind_under (every field vs) _ _ (λ more. ap Some (sym (append_assoc xs (x ∷ []) more)))

-- one more was read
pub one_more : {X : Type 0} (field : Value → Option X) (xs : List X) (p p' p'' : Position) (b m n : ℕ) (x : X) → CountedContinues 1 (every field) p b (λ vs. every field vs >>= and_more xs) p' m → CountedOne 1 field p' p'' m n x → CountedContinues 1 (every field) p b (λ vs. every field vs >>= and_more (xs ++ x ∷ [])) p'' n
one_more field xs p p' p'' b m n x s t =
    let h = continues_item 1 1 (every field) p b field (and_more xs) p' p'' m n x refl s t in
    record {
      reads = λ k q a y r. h.reads k q a y (reads_as 1 k _ _ p'' q n a y (λ vs. sym (moved field xs x vs)) r);
      stops = λ k a e w. h.stops k a e (stops_as 1 k _ _ p'' n a e (λ vs. sym (moved field xs x vs)) w);
      levels = h.levels;
      mode = h.mode;
    }

-- all were read: the cursor began at p, stood at e, at the level's end, and left to q
pub all_read : {X : Type 0} (field : Value → Option X) (xs : List X) (p e q : Position) (b m a : ℕ) (octets : List ℕ) → CountedContinues 1 (every field) p b (λ vs. every field vs >>= and_more xs) e m → Leaves e q → a ≡ m + marks (top e.levels) → octets ≡ up_to p.here e.here → CountedReads 1 0 (held (every field)) p q b a (octets, xs)
all_read field xs p e q b m a octets s l t is =
    let r : CountedReads 1 0 (every field) p q b a xs = s.reads 0 q a xs (reads_end 1 field (and_more xs) e q m a xs refl l t (ap Some (append-nil xs))) in
    let h : CountedReads 1 0 (held (every field)) p q b a (up_to p.here e.here, xs) = reads_held 1 0 (every field) p e q b a xs (ap top s.levels) l r in
    subst (λ o. CountedReads 1 0 (held (every field)) p q b a (o, xs)) (sym is) h
