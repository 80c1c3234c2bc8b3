-- Octets that are read or written in pieces.
use Rattle.std.proofs.Common.{◌≡◌, ℕ, ◌+◌, ◌-◌, ◌≤◌, List, ◌++◌, length, take, drop, arith, length-append, length-take}
use Rattle.std.proofs.Common.{append_assoc, take-append-drop}
use Rattle.std.specs.declared.option.Option.{Option}
use Rattle.std.specs.Io.KnownBytes.{Appends, Consumes}
use Rattle.std.proofs.KnownBytes.{Appends-trans, Consumes-trans}
use Rattle.std.proofs.lemmas.List.{take_all, length-drop, drop-drop}
use Rattle.rpki_text.specs.Source.{TakesExactly}

-- one more piece was written
pub write_more : (old mid new : Option (List ℕ)) (all front rest : List ℕ) (count : ℕ) → all ≡ front ++ rest → Appends old mid front
    → Appends mid new (take count rest) → count ≤ length rest
    → (f : List ℕ) × (all ≡ f ++ take (length rest - count) (drop count rest)) × Appends old new f
write_more old mid new all front rest count e p q le =
    let whole : take (length rest - count) (drop count rest) ≡ drop count rest = take_all (length rest - count) (drop count rest) (rw length-drop (omega arith)) in
    (front ++ take count rest, rw (whole, append_assoc, take-append-drop) e, Appends-trans old mid new front (take count rest) p q)

-- one more piece was read
pub read_more : (old mid new : Option (List ℕ)) (held block : List ℕ) (count : ℕ) → Consumes old mid held → Consumes mid new (take count block) → count ≤ length block
    → TakesExactly old new (length held + count)
read_more old mid new held block count p q le =
    (held ++ take count block, Consumes-trans old mid new held (take count block) p q, omega (arith, length-append held (take count block), length-take count block))

-- the front of `into` is the piece that stood at `at`, and what is left comes behind it
pub given_then_left : (rest octets into : List ℕ) (at count : ℕ) → rest ≡ drop at octets → at + count ≤ length octets
    → take (length (take (at + count - at) (drop at octets))) into ≡ take (at + count - at) (drop at octets)
    → rest ≡ take count into ++ drop (at + count) octets
given_then_left rest octets into at count r le e =
    let same : at + count - at ≡ count = omega arith in
    let short : length (take count (drop at octets)) ≡ count = omega (arith, length-take count (drop at octets), length-drop at octets) in
    let front : take count into ≡ take count (drop at octets) = rw (same, short) at e in
    rw (front, ← drop-drop count at octets) (rw take-append-drop r)
