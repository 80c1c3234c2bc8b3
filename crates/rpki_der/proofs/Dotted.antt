-- The text of object identifiers.
use Rattle.std.proofs.Common.{◌≡◌, ℕ, zero, suc, ◌+◌, ◌-◌, ◌*◌, ◌%◌, ◌<◌, ◌≤◌, Bool, true, false, cond, None, Some, List, [], ◌∷◌, ◌++◌, length, take, drop, refl, sym, ap, subst, ◌∙◌, append_assoc, arith}
use Rattle.std.specs.Prelude.{fold, nat_lt, position}
use Rattle.std.specs.List.{position_from}
use Rattle.std.proofs.lemmas.Iterator.Adapters.{position_from-zero}
use Rattle.std.proofs.lemmas.List.{append-nil, length-take-le}
use Rattle.std.proofs.Output.{has_written_append, has_written_of_eq}
use Rattle.std.specs.declared.fmt.Formatter.{Formatter}
use Rattle.std.specs.Fmt.{HasWritten, IsPlainFormatter}
use Rattle.rpki_der.specs.Arcs.{in_front, subidentifier_parts, base_128, first_text, later_text, parts_text, oid_text}

-- ---- the parts

pub record PartAt (octets : List ℕ) (i : ℕ) : Type 0 where
  pub within : i < length octets
  pub parts : subidentifier_parts octets ≡ take (suc i) octets ∷ subidentifier_parts (drop (suc i) octets)

part_later : (a : ℕ) (more : List ℕ) (i : ℕ) → nat_lt a 128 ≡ false → PartAt more i → PartAt (a ∷ more) (suc i)
part_later a more i f p = record { within = omega (arith, p.within); parts = rw f (ap (in_front a) p.parts) }

part_either : (b : Bool) (a k j : ℕ) (more : List ℕ) → (position_from (λ a. nat_lt a 128) (k + 1) more ≡ Some j → (i : ℕ) × (j ≡ k + 1 + i) × PartAt more i) → nat_lt a 128 ≡ b → cond b (Some k) (position_from (λ a. nat_lt a 128) (k + 1) more) ≡ Some j → (i : ℕ) × (j ≡ k + i) × PartAt (a ∷ more) i
part_either true a k j more later t e = let same : k ≡ j = cc in (0, omega (arith, same), record { within = omega arith; parts = rw t refl })
part_either false a k j more later t e = let w = later e in (suc w.0, omega (arith, w.1), part_later a more w.0 t w.2)

part_from : (octets : List ℕ) (k j : ℕ) → position_from (λ a. nat_lt a 128) k octets ≡ Some j → (i : ℕ) × (j ≡ k + i) × PartAt octets i
part_from [] k j e = absurd cc
part_from (a ∷ more) k j e = part_either (nat_lt a 128) a k j more (part_from more (k + 1) j) refl e

pub part_at : (octets : List ℕ) (j : ℕ) → position (λ a. nat_lt a 128) octets ≡ Some j → PartAt octets j
part_at octets j e = let w = part_from octets 0 j (sym (position_from-zero (λ a. nat_lt a 128) octets) ∙ e) in let same : w.0 ≡ j = omega (arith, w.1) in subst (PartAt octets) same w.2

none_either : (b : Bool) (a k : ℕ) (more : List ℕ) → (position_from (λ a. nat_lt a 128) (k + 1) more ≡ None → subidentifier_parts more ≡ []) → nat_lt a 128 ≡ b → cond b (Some k) (position_from (λ a. nat_lt a 128) (k + 1) more) ≡ None → subidentifier_parts (a ∷ more) ≡ []
none_either true a k more later t e = absurd cc
none_either false a k more later t e = rw t (ap (in_front a) (later e))

none_from : (octets : List ℕ) (k : ℕ) → position_from (λ a. nat_lt a 128) k octets ≡ None → subidentifier_parts octets ≡ []
none_from [] k e = refl
none_from (a ∷ more) k e = none_either (nat_lt a 128) a k more (none_from more (k + 1)) refl e

pub no_part : (octets : List ℕ) → position (λ a. nat_lt a 128) octets ≡ None → subidentifier_parts octets ≡ []
no_part octets e = none_from octets 0 (sym (position_from-zero (λ a. nat_lt a 128) octets) ∙ e)

-- ---- nine octets are below 2^63

times_128 : ℕ → ℕ → ℕ
times_128 zero m = m
times_128 (suc k) m = times_128 k (m * 128)

times_more : (k m n : ℕ) → m ≤ n → times_128 k m ≤ times_128 k n
unfolding times_128
times_more zero m n h = h
times_more (suc k) m n h = times_more k (m * 128) (n * 128) (omega (arith, h))

times_once : (k m : ℕ) → times_128 k m ≤ times_128 (suc k) m
unfolding times_128
times_once k m = times_more k m (m * 128) (omega arith)

times_on : (d k j m : ℕ) → j ≡ d + k → times_128 k m ≤ times_128 j m
times_on zero k j m e = let same : k ≡ j = omega (arith, e) in subst (λ i. times_128 k m ≤ times_128 i m) same (omega arith)
times_on (suc d) k j m e = let rest = times_on d (suc k) j m (omega (arith, e)) in omega (arith, rest, times_once k m)

below : (n m : ℕ) (octets : List ℕ) → n < m → fold (λ n a. n * 128 + a % 128) n octets < times_128 (length octets) m
unfolding times_128
below n m [] h = h
below n m (a ∷ octets) h = below (n * 128 + a % 128) (m * 128) octets (omega (arith, h))

eight : times_128 8 1 ≡ 72057594037927936
unfolding times_128
eight = refl

pub eight_octets : (octets : List ℕ) (i : ℕ) → i < length octets → length octets ≤ 9 → base_128 (take i octets) < 72057594037927936
eight_octets octets i within most =
    let len : length (take i octets) ≡ i = length-take-le i octets (omega (arith, within)) in
    let small : base_128 (take i octets) < times_128 (length (take i octets)) 1 = below 0 1 (take i octets) (omega arith) in
    let on : times_128 (length (take i octets)) 1 ≤ times_128 8 1 = times_on (8 - i) (length (take i octets)) 8 1 (omega (arith, len, within, most)) in
    omega (arith, small, on, eight)

-- ---- what was written so far

-- the formatter g is f after writing some text, which with rest is all
pub record Wrote {W : Type 0} (took : W → List ℕ → W → Type 0) (f g : Formatter W) (rest all : List ℕ) : Type 0 where
  pub so_far : List ℕ
  pub written : HasWritten took f so_far g
  pub joins : so_far ++ rest ≡ all

pub wrote_more : {W : Type 0} (took : W → List ℕ → W → Type 0) (f g h : Formatter W) (piece rest later all : List ℕ) → Wrote took f g rest all → rest ≡ piece ++ later → HasWritten took g piece h → Wrote took f h later all
wrote_more took f g h piece rest later all w e p = record {
  so_far = w.so_far ++ piece;
  written = has_written_append took f w.so_far g piece h w.written p;
  joins = append_assoc w.so_far piece later ∙ ap (λ t. w.so_far ++ t) (sym e) ∙ w.joins;
}

-- the first arcs, and then all later ones
pub wrote_all : {W : Type 0} (took : W → List ℕ → W → Type 0) (f g h : Formatter W) (octets part rest : List ℕ) (parts : List (List ℕ)) → subidentifier_parts octets ≡ part ∷ parts → HasWritten took f (first_text part) g → Wrote took g h (later_text (subidentifier_parts rest)) (later_text parts) → subidentifier_parts rest ≡ [] → HasWritten took f (oid_text octets) h
unfolding oid_text
wrote_all took f g h octets part rest parts e p w n =
    let none : later_text (subidentifier_parts rest) ≡ [] = ap later_text n in
    let all : w.so_far ≡ later_text parts = sym (append-nil w.so_far) ∙ ap (λ t. w.so_far ++ t) (sym none) ∙ w.joins in
    let text : first_text part ++ w.so_far ≡ parts_text (subidentifier_parts octets) = ap (λ t. first_text part ++ t) all ∙ sym (ap parts_text e) in
    has_written_of_eq took f (first_text part ++ w.so_far) (parts_text (subidentifier_parts octets)) h text (has_written_append took f (first_text part) g w.so_far h p w.written)

pub wrote_none : {W : Type 0} (took : W → List ℕ → W → Type 0) (f : Formatter W) (octets : List ℕ) → subidentifier_parts octets ≡ [] → IsPlainFormatter f → HasWritten took f (oid_text octets) f
unfolding oid_text
wrote_none took f octets n plain = has_written_of_eq took f [] (parts_text (subidentifier_parts octets)) f (sym (ap parts_text n)) (record { wrote = record { parts = []; calls = refl; whole = refl }; plain = plain })
