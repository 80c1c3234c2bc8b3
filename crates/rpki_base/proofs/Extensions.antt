-- What an extension holds is among the octets that were passed; and what is found in several.
use Rattle.std.proofs.Common.{◌≡◌, ℕ, ◌+◌, ◌≤◌, Option, None, Some, List, length, refl, arith}
use Rattle.rpki_common.specs.Chaining.{◌>>=◌}
use Rattle.rpki_der.specs.Value.{Value, Values}
use Rattle.rpki_der.specs.Position.{Position, Leaves}
use Rattle.rpki_der.specs.OctetString.{octet_string}
use Rattle.rpki_der.specs.Takes.{Goes}
use Rattle.rpki_der.specs.Ticks.{left, CountedOne, CountedFields}
use Rattle.rpki_der.specs.Tags.{octet_string_tag}
use Rattle.rpki_der.proofs.Counting.{goes_left, value_left, leaves_left}
use Rattle.rpki_der.proofs.Insides.{string_octets}

pub held_within : {X Y : Type 0} (tag : List ℕ) (field : Value → Option X) (fields : Values → Option (Y × Values)) (s p p1 p2 p3 q : Position) (b b1 b2 b3 : ℕ) (x : X) (y : Y) (octets : List ℕ) → Goes tag s p → CountedOne 1 field p p1 b b1 x → CountedFields 1 1 fields p1 p2 b1 b2 y → CountedOne 1 (octet_string p2.mode) p2 p3 b2 b3 octets → Leaves p3 q → length octets + left q ≤ left s
held_within tag field fields s p p1 p2 p3 q b b1 b2 b3 x y octets g n f t l =
    let outside : left p + 2 ≤ left s = goes_left tag s p g in
    let named : left p1 + 2 ≤ left p = value_left p p1 n.takes.value n.takes.begins n.takes.levels in
    let held : length octets + left p3 ≤ left p2 = string_octets 1 octet_string_tag p2.mode p2 p3 b2 b3 octets t in
    omega (arith, outside, named, f.on, held, leaves_left p3 q l)

-- ---- what is found in extensions

abbrev pub all_found : {F : Type 0} → F → Option F
all_found found = Some found

pub as_found : {F : Type 0} (o : Option F) → (o >>= all_found) ≡ o
unfolding ◌>>=◌
as_found None = refl
as_found (Some found) = refl
