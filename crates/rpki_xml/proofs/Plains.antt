-- Characters that stand for themselves, read many at a time.
use Rattle.std.proofs.Common.{◌≡◌, ℕ, zero, suc, ◌<◌, ◌≤◌, ◌+◌, List, [], ◌∷◌, ◌++◌, length, take, drop, get_or, Bool, ◌&&◌, ◌||◌, not, true, false, cond, eqb, Some, None, refl, sym, ap, subst, ◌∙◌, append_assoc, arith}
use Rattle.std.proofs.lemmas.List.{append-nil, length-append}
use Rattle.std.proofs.lemmas.Bool.{eqb-true, eqb-false}
use Rattle.std.specs.List.{list_all}
use Rattle.memchr.specs.Find.{IsFirstByte, Nowhere, Passes, is_byte3}
use Rattle.rpki_common.proofs.Truths.{both}
use Rattle.rpki_common.proofs.Truths.{same_some}
use Rattle.rpki_xml.specs.Lexing.{character_at, ends_at, front_of, back_of, until}
use Rattle.rpki_xml.specs.PlainCharacter.{is_plain}
use Rattle.rpki_xml.proofs.Until.{Until, until_starts, until_more, until_done}

not_true : (a : Bool) → not a ≡ true → a ≡ false
not_true true e = absurd cc
not_true false e = refl

-- ---- the longest front of octets that pass

pub front_back : (passes : ℕ → Bool) (b : List ℕ) → front_of passes b ++ back_of passes b ≡ b
front_back passes [] = refl
front_back passes (c ∷ b) = go (passes c) (front_back passes b)
  where
    go : (x : Bool) → front_of passes b ++ back_of passes b ≡ b → cond x (c ∷ front_of passes b) [] ++ cond x (back_of passes b) (c ∷ b) ≡ c ∷ b
    go true e = ap (λ (l : List ℕ). c ∷ l) e
    go false e = refl

front_passes : (passes : ℕ → Bool) (b : List ℕ) → list_all passes (front_of passes b) ≡ true
front_passes passes [] = refl
front_passes passes (c ∷ b) = go (passes c) refl (front_passes passes b)
  where
    go : (x : Bool) → passes c ≡ x → list_all passes (front_of passes b) ≡ true → list_all passes (cond x (c ∷ front_of passes b) []) ≡ true
    go true e h = rw (e, h) refl
    go false e h = refl

pub front_back_length : (passes : ℕ → Bool) (b : List ℕ) → length (front_of passes b) + length (back_of passes b) ≡ length b
front_back_length passes b = sym (length-append (front_of passes b) (back_of passes b)) ∙ ap length (front_back passes b)

-- where all pass before a place, and the octet there doesn't, the front ends there
front_ends : (passes : ℕ → Bool) (b : List ℕ) (k : ℕ) → ((j : ℕ) → j < k → passes (get_or b j 0) ≡ true) → k < length b → passes (get_or b k 0) ≡ false → (front_of passes b ≡ take k b) × (back_of passes b ≡ drop k b)
front_ends passes [] k all within off = absurd (omega (arith, within))
front_ends passes (c ∷ b) zero all within off = rw off (refl, refl)
front_ends passes (c ∷ b) (suc k) all within off =
    let next = front_ends passes b k (λ j before. all (suc j) (omega (arith, before))) (omega (arith, within)) off in
    rw (all 0 (omega arith)) (ap (λ (l : List ℕ). c ∷ l) next.0, next.1)

-- where all pass, nothing is left
front_all : (passes : ℕ → Bool) (b : List ℕ) → ((j : ℕ) → j < length b → passes (get_or b j 0) ≡ true) → (front_of passes b ≡ b) × (back_of passes b ≡ [])
front_all passes [] all = (refl, refl)
front_all passes (c ∷ b) all =
    let next = front_all passes b (λ j before. all (suc j) (omega (arith, before))) in
    rw (all 0 (omega arith)) (ap (λ (l : List ℕ). c ∷ l) next.0, next.1)

-- a character is plain where the search for the others doesn't find it
plain_or_found : (a b c : Bool) → (not a && not b && not c) ≡ not (a || b || c)
plain_or_found true b c = refl
plain_or_found false true c = refl
plain_or_found false false true = refl
plain_or_found false false false = refl

passed_over : (found : Bool) → ¬ (found ≡ true) → not found ≡ true
passed_over true h = absurd (h refl)
passed_over false h = refl

plain_before : (stop : ℕ) (b : List ℕ) (end : ℕ) → Nowhere (Passes (is_byte3 stop 60 38) b) 0 end → (j : ℕ) → j < end → is_plain stop (get_or b j 0) ≡ true
plain_before stop b end none j before =
    let c = get_or b j 0 in
    plain_or_found (eqb c stop) (eqb c 60) (eqb c 38) ∙ passed_over (is_byte3 stop 60 38 c) (none j (omega arith) before)

pub plain_ends : (stop : ℕ) (b : List ℕ) (end : ℕ) → IsFirstByte (is_byte3 stop 60 38) b (Some end) → (front_of (is_plain stop) b ≡ take end b) × (back_of (is_plain stop) b ≡ drop end b)
plain_ends stop b end first =
    let c = get_or b end 0 in
    front_ends (is_plain stop) b end (plain_before stop b end first.0.before) first.0.high (plain_or_found (eqb c stop) (eqb c 60) (eqb c 38) ∙ ap not first.1)

pub plain_all : (stop : ℕ) (b : List ℕ) → IsFirstByte (is_byte3 stop 60 38) b None → (front_of (is_plain stop) b ≡ b) × (back_of (is_plain stop) b ≡ [])
plain_all stop b none = front_all (is_plain stop) b (plain_before stop b (length b) none)

-- where nothing passes, all is left
pub back_same : (passes : ℕ → Bool) (b : List ℕ) → length (back_of passes b) ≡ length b → back_of passes b ≡ b
back_same passes b e = go (front_of passes b) (front_back passes b) (front_back_length passes b)
  where
    go : (front : List ℕ) → front ++ back_of passes b ≡ b → length front + length (back_of passes b) ≡ length b → back_of passes b ≡ b
    go [] is count = is
    go (c ∷ front) is count = absurd (omega (arith, e, count))

pub back_smaller : (passes : ℕ → Bool) (rest front back : List ℕ) → front ≡ front_of passes rest → back ≡ back_of passes rest → 0 < length front → length back < length rest
back_smaller passes rest front back f b some = omega (arith, front_back_length passes rest, ap length f, ap length b, some)

-- ---- reading

plain_stops : (at_end : Bool) (stop c : ℕ) (b : List ℕ) → is_plain stop c ≡ true → (ends_at at_end stop (c ∷ b) ≡ false) × (character_at (c ∷ b) ≡ Some (c, b))
unfolding character_at
plain_stops at_end stop c b h =
    let p = both (not (eqb c stop) && not (eqb c 60)) (not (eqb c 38)) h in
    let q = both (not (eqb c stop)) (not (eqb c 60)) p.0 in
    (not_true (eqb c stop) q.0, rw (not_true (eqb c 38) p.1, not_true (eqb c 60) q.1) refl)

until_front : (at_end : Bool) (stop : ℕ) (b value front rest : List ℕ) → list_all (is_plain stop) front ≡ true → Until (ends_at at_end stop) character_at b value (front ++ rest) → Until (ends_at at_end stop) character_at b (value ++ front) rest
until_front at_end stop b value [] rest h u = subst (λ (v : List ℕ). Until (ends_at at_end stop) character_at b v rest) (sym (append-nil value)) u
until_front at_end stop b value (c ∷ front) rest h u =
    let p = both (is_plain stop c) (list_all (is_plain stop) front) h in
    let s = plain_stops at_end stop c (front ++ rest) p.0 in
    let one = until_more (ends_at at_end stop) character_at b value (c ∷ (front ++ rest)) c (front ++ rest) u s.0 s.1 (omega arith) in
    subst (λ (v : List ℕ). Until (ends_at at_end stop) character_at b v rest) (append_assoc value (c ∷ []) front) (until_front at_end stop b (value ++ c ∷ []) front rest p.1 one)

-- what stands for itself was read, and the rest is left
pub until_plain : (at_end : Bool) (stop : ℕ) (b value rest : List ℕ) → Until (ends_at at_end stop) character_at b value rest → Until (ends_at at_end stop) character_at b (value ++ front_of (is_plain stop) rest) (back_of (is_plain stop) rest)
until_plain at_end stop b value rest u =
    until_front at_end stop b value (front_of (is_plain stop) rest) (back_of (is_plain stop) rest) (front_passes (is_plain stop) rest) (subst (λ (l : List ℕ). Until (ends_at at_end stop) character_at b value l) (sym (front_back (is_plain stop) rest)) u)

pub plain_done : (at_end : Bool) (stop : ℕ) (b : List ℕ) → ends_at at_end stop (back_of (is_plain stop) b) ≡ true → until (ends_at at_end stop) character_at b ≡ Some (front_of (is_plain stop) b, back_of (is_plain stop) b)
plain_done at_end stop b off =
    until_done (ends_at at_end stop) character_at b (front_of (is_plain stop) b) (back_of (is_plain stop) b) (until_plain at_end stop b [] b (until_starts (ends_at at_end stop) character_at b)) off

differs : (x y : Bool) → x ≡ true → y ≡ false → x ≡ y → ⊥
differs x y on off e = cc

-- where it does not end at once, something was read
pub plain_moves : (at_end : Bool) (stop : ℕ) (b : List ℕ) → ends_at at_end stop (back_of (is_plain stop) b) ≡ true → ends_at at_end stop b ≡ false → length (back_of (is_plain stop) b) < length b
plain_moves at_end stop b off on = go (eqb (length (back_of (is_plain stop) b)) (length b)) refl
  where
    go : (x : Bool) → eqb (length (back_of (is_plain stop) b)) (length b) ≡ x → length (back_of (is_plain stop) b) < length b
    go true e = absurd (differs (ends_at at_end stop (back_of (is_plain stop) b)) (ends_at at_end stop b) off on (ap (ends_at at_end stop) (back_same (is_plain stop) b (eqb-true (length (back_of (is_plain stop) b)) (length b) e))))
    go false e = let ne = eqb-false (length (back_of (is_plain stop) b)) (length b) e in omega (arith, ne, front_back_length (is_plain stop) b)

-- a loop's end: where it does not end at once, something was read
pub moved_at_end : (at_end : Bool) (stop : ℕ) (b rest : List ℕ) → length rest ≤ length b → (length rest ≡ length b → rest ≡ b) → ends_at at_end stop rest ≡ true → ends_at at_end stop b ≡ false → length rest < length b
moved_at_end at_end stop b rest le same off on = go (eqb (length rest) (length b)) refl
  where
    go : (x : Bool) → eqb (length rest) (length b) ≡ x → length rest < length b
    go true e = absurd (differs (ends_at at_end stop rest) (ends_at at_end stop b) off on (ap (ends_at at_end stop) (same (eqb-true (length rest) (length b) e))))
    go false e = let ne = eqb-false (length rest) (length b) e in omega (arith, ne, le)

-- octets that are what stands for itself were read
pub plain_read : (at_end : Bool) (stop : ℕ) (b front back octets : List ℕ) → Some front ≡ Some octets → front ≡ front_of (is_plain stop) b → back ≡ back_of (is_plain stop) b → ends_at at_end stop back ≡ true → until (ends_at at_end stop) character_at b ≡ Some (octets, back)
plain_read at_end stop b front back octets same f g off =
    plain_done at_end stop b (ap (ends_at at_end stop) (sym g) ∙ off) ∙ ap (λ (x : List ℕ). Some (x, back_of (is_plain stop) b)) (sym f ∙ same_some front octets same) ∙ ap (λ (x : List ℕ). Some (octets, x)) (sym g)
