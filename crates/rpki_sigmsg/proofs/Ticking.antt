-- How often the decoding of a signed message ticks, and what is read of its content.
use Rattle.std.proofs.Common.{ℕ, ◌+◌, ◌*◌, ◌≤◌, Result, Ok, Err, List, length, subst, arith}
use Rattle.rpki_der.specs.declared.error.DecodeError.{DecodeError}
use Rattle.rpki_der.specs.declared.mode.Mode.TheVariants.{Ber}
use Rattle.rpki_der.specs.Ticks.{nodes, DecodesCounted, CountedBegins}
use Rattle.rpki_der.specs.Value.{Value, Begins}
use Rattle.rpki_der.proofs.Parts.{at_most_one}
use Rattle.rpki_sigmsg.specs.Beginning.{BeginsSigned}
use Rattle.rpki_sigmsg.specs.Message.{MessageFields, signed_message}
use Rattle.rpki_sigmsg.proofs.Contents.{content_within}

pub found : (octets : List ℕ) (b a : ℕ) (m : MessageFields) → CountedBegins 3 (signed_message Ber) Ber octets b a m → BeginsSigned octets m
found octets b a m d = d.begins

pub most : (octets : List ℕ) (b a : ℕ) (r : Result MessageFields DecodeError) → DecodesCounted 3 (signed_message Ber) (λ m. m) Ber octets b a r → a ≤ b + 3 * length octets + 8
most octets b a (Ok m) d = omega (arith, d.most)
most octets b a (Err e) d = omega (arith, d.most)

pub least : (octets : List ℕ) (b a : ℕ) (m : MessageFields) → CountedBegins 3 (signed_message Ber) Ber octets b a m → (v : Value) (rest : List ℕ) → Begins Ber octets v rest → b + nodes v ≤ a
least octets b a m d v rest begins =
    let same = at_most_one Ber octets d.begins.value v d.begins.rest rest d.begins.begins begins in
    subst (λ (w : Value). b + nodes w ≤ a) same.value d.least

-- ---- where the content is read with ticks besides: it has no more octets than the message

pub most_alone : (octets : List ℕ) (b a : ℕ) (r : Result MessageFields DecodeError) → DecodesCounted 3 (signed_message Ber) (λ m. m) Ber octets b a r → a ≤ b + 5 * length octets + 8
most_alone octets b a r d = omega (arith, most octets b a r d)

pub most_of_both : (octets : List ℕ) (b between a : ℕ) (m : MessageFields) → CountedBegins 3 (signed_message Ber) Ber octets b between m → a ≤ between + 2 * length m.content + 8 → a ≤ b + 5 * length octets + 8
most_of_both octets b between a m d content = omega (arith, d.most, content, content_within octets m d.begins)

pub least_of_both : (octets : List ℕ) (b between a : ℕ) (m : MessageFields) → CountedBegins 3 (signed_message Ber) Ber octets b between m → between ≤ a → (v : Value) (rest : List ℕ) → Begins Ber octets v rest → b + nodes v ≤ a
least_of_both octets b between a m d later v rest begins = let first = least octets b between m d v rest begins in omega (arith, first, later)
