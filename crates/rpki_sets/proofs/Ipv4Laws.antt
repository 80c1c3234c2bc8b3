-- IPv4 addresses are a lawful kind.
use Rattle.std.proofs.Common.{◌≡◌, ℕ, ◌^◌, ◌<◌, Option, None, Some, List, [], get_or, refl, sym, ap, ◌∙◌, arith, lit≤, append-nil}
use Rattle.std.specs.List.{All}
use Rattle.std.specs.Int.{w32, from_be_bytes, to_be_bytes}
use Rattle.std.specs.Net.Grammar.{IsDotted}
use Rattle.std.specs.Net.Text.{ipv4_text}
use Rattle.std.specs.Net.Reader.{read_ipv4, read_octet, read_number, whole_value}
use Rattle.std.proofs.lemmas.List.Elements.{All-weaker}
use Rattle.std.proofs.lemmas.Nat.{from_be_bytes-to_be_bytes_4}
use Rattle.std.proofs.NetLemmas.Alphabet.{IsDigitOrDot, All-ipv4_text}
use Rattle.std.proofs.NetLemmas.Texts.{IsDotted-ipv4_text}
use Rattle.std.proofs.NetLemmas.Ipv4.{read_ipv4_complete, read_ipv4_sound}
use Rattle.rpki_common.specs.Chaining.{◌>>=◌}
use Rattle.rpki_sets.specs.Kinds.{IsLawfulKind, IsPlain}
use Rattle.rpki_sets.specs.Ipv4Addresses.{ipv4_number, ipv4_number_text, ipv4_kind}
use Rattle.rpki_sets.proofs.Fitting.{bind_some}
use Rattle.rpki_sets.proofs.BigEndian.{bytes_small}
use Rattle.rpki_sets.proofs.Wholes.{whole_value-some, whole_value-all}

-- four octets between dots are read as their number
pub ipv4_number-dotted : (text octets : List ℕ) → IsDotted text octets → ipv4_number text ≡ Some (from_be_bytes w32 octets)
unfolding ipv4_number ◌>>=◌
ipv4_number-dotted text octets h =
    let read : read_ipv4 text ≡ Some (octets, []) = ap read_ipv4 (sym (append-nil text)) ∙ read_ipv4_complete text octets [] h (lit≤ tt) in
    rw (whole_value-all octets (read_ipv4 text) read) refl

-- what is read are four octets between dots
pub ipv4_number-sound : (text : List ℕ) (n : ℕ) → ipv4_number text ≡ Some n → (octets : List ℕ) × IsDotted text octets × (n ≡ from_be_bytes w32 octets)
unfolding ipv4_number
ipv4_number-sound text n e =
    bind_some (whole_value (read_ipv4 text)) (λ octets. Some (from_be_bytes w32 octets)) n e
    (λ octets h g.
    let read = whole_value-some octets (read_ipv4 text) h in
    let (front, split, dotted) = read_ipv4_sound text octets [] read in
    (octets, rw (split ∙ append-nil front) dotted, cc))

-- where the text is no four octets, nothing is read
pub ipv4_number-none : (text : List ℕ) → ((octets : List ℕ) → ¬ (IsDotted text octets)) → ipv4_number text ≡ None
ipv4_number-none text nothing = by_answer (ipv4_number text) refl
  where
    by_answer : (o : Option ℕ) → ipv4_number text ≡ o → o ≡ None
    by_answer None e = refl
    by_answer (Some n) e = let found = ipv4_number-sound text n e in absurd (nothing found.0 found.1)

dotted_below : (text octets : List ℕ) → IsDotted text octets → from_be_bytes w32 octets < 2 ^ 32
dotted_below text octets h =
    let f = h.fit in
    rw h.value (omega arith)

four_small : (n k : ℕ) → get_or (to_be_bytes w32 n) k 0 < 2 ^ 8
four_small n k = bytes_small 4 n k

ipv4_within : (text : List ℕ) (n : ℕ) → ipv4_number text ≡ Some n → n < 2 ^ 32
ipv4_within text n e =
    let found = ipv4_number-sound text n e in
    rw found.2 (dotted_below text found.0 found.1)

ipv4_again : (n : ℕ) → n < 2 ^ 32 → ipv4_number (ipv4_number_text n) ≡ Some n
unfolding ipv4_number_text
ipv4_again n small =
    ipv4_number-dotted (ipv4_text (to_be_bytes w32 n)) (to_be_bytes w32 n) (IsDotted-ipv4_text (to_be_bytes w32 n) refl (four_small n))
    ∙ ap Some (from_be_bytes-to_be_bytes_4 n small)

ipv4_plain : (n : ℕ) → n < 2 ^ 32 → All IsPlain (ipv4_number_text n)
unfolding ipv4_number_text
ipv4_plain n small =
    All-weaker IsDigitOrDot IsPlain (λ octet h. (omega arith, omega arith, omega arith, omega arith)) _ (All-ipv4_text (to_be_bytes w32 n) (four_small n))

ipv4_empty : ipv4_number [] ≡ None
unfolding ipv4_number read_ipv4 read_octet read_number ◌>>=◌
ipv4_empty = refl

pub ipv4_lawful : IsLawfulKind ipv4_kind
ipv4_lawful = record { bounded = lit≤ tt; within = ipv4_within; again = ipv4_again; empty = ipv4_empty; plain = ipv4_plain }
