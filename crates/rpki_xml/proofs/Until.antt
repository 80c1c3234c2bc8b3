-- Reading one after the other, as a loop does.
use Rattle.std.proofs.Common.{◌≡◌, ℕ, zero, suc, ◌<◌, List, [], ◌∷◌, ◌++◌, length, Bool, true, false, Option, Some, None, refl, sym, ap, ◌∙◌, append_assoc, arith}
use Rattle.std.proofs.lemmas.List.{append-nil}
use Rattle.rpki_xml.specs.declared.error.XmlError.{XmlError}
use Rattle.rpki_xml.specs.declared.error.XmlError.TheVariants as errors
use Rattle.rpki_common.specs.Chaining.{◌>>=◌}
use Rattle.rpki_xml.specs.Answers.{Fails}
use Rattle.rpki_xml.specs.Lexing.{repeated, until}

-- what was read before, and what is still read
abbrev pub with_front : {X : Type 0} → List X → Option (List X × List ℕ) → Option (List X × List ℕ)
with_front front read = read >>= λ x. Some (front ++ x.0, x.1)

regroup : {X : Type 0} (front : List X) (x : X) (read : Option (List X × List ℕ)) → with_front front (read >>= λ more. Some (x ∷ more.0, more.1)) ≡ with_front (front ++ x ∷ []) read
unfolding ◌>>=◌
regroup {X} front x (Some y) = ap (λ (l : List X). Some (l, y.1)) (sym (append_assoc front (x ∷ []) y.0))
regroup front x None = refl

-- from b on, front was read, and rest is left
pub record Until {X : Type 0} (stops : List ℕ → Bool) (at : List ℕ → Option (X × List ℕ)) (b : List ℕ) (front : List X) (rest : List ℕ) : Type 0 where
  pub n : ℕ
  pub enough : length rest < n
  pub same : with_front front (repeated stops at n rest) ≡ until stops at b

front_nothing : {X : Type 0} (read : Option (List X × List ℕ)) → with_front [] read ≡ read
unfolding ◌>>=◌
front_nothing (Some x) = refl
front_nothing None = refl

pub until_starts : {X : Type 0} (stops : List ℕ → Bool) (at : List ℕ → Option (X × List ℕ)) (b : List ℕ) → Until stops at b [] b
unfolding until
until_starts stops at b = record { n = suc (length b); enough = omega arith; same = front_nothing (repeated stops at (suc (length b)) b) }

pub until_more : {X : Type 0} (stops : List ℕ → Bool) (at : List ℕ → Option (X × List ℕ)) (b : List ℕ) (front : List X) (rest : List ℕ) (x : X) (next : List ℕ) → Until stops at b front rest
    → stops rest ≡ false → at rest ≡ Some (x, next) → length next < length rest → Until stops at b (front ++ x ∷ []) next
unfolding ◌>>=◌
until_more stops at b front rest x next u on read shorter = go u.n u.enough u.same
  where
    go : (n : ℕ) → length rest < n → with_front front (repeated stops at n rest) ≡ until stops at b → Until stops at b (front ++ x ∷ []) next
    go zero enough same = absurd (omega arith)
    go (suc n) enough same = record {
      n = n;
      enough = omega arith;
      same = sym (regroup front x (repeated stops at n next)) ∙ rw (on, read) at same;
    }

pub until_fails : {X : Type 0} (stops : List ℕ → Bool) (at : List ℕ → Option (X × List ℕ)) (b : List ℕ) (front : List X) (rest : List ℕ) (e : XmlError) → Until stops at b front rest → stops rest ≡ false → Fails e (at rest) → Fails e (until stops at b)
unfolding ◌>>=◌
until_fails stops at b front rest errors.OutOfMemory u on fails = tt
until_fails stops at b front rest errors.Malformed u on fails = go u.n u.enough u.same
  where
    go : (n : ℕ) → length rest < n → with_front front (repeated stops at n rest) ≡ until stops at b → until stops at b ≡ None
    go zero enough same = absurd (omega arith)
    go (suc n) enough same = sym (rw (on, fails) at same)

pub until_done : {X : Type 0} (stops : List ℕ → Bool) (at : List ℕ → Option (X × List ℕ)) (b : List ℕ) (front : List X) (rest : List ℕ) → Until stops at b front rest → stops rest ≡ true → until stops at b ≡ Some (front, rest)
unfolding ◌>>=◌
until_done {X} stops at b front rest u off = go u.n u.enough u.same
  where
    go : (n : ℕ) → length rest < n → with_front front (repeated stops at n rest) ≡ until stops at b → until stops at b ≡ Some (front, rest)
    go zero enough same = absurd (omega arith)
    go (suc n) enough same = sym (rw off at same) ∙ ap (λ (l : List X). Some (l, rest)) (append-nil front)
