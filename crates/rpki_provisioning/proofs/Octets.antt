-- What is written of sets, times, keys and numbers consists of octets that a document may have.
use Rattle.std.proofs.Common.{◌≡◌, ℕ, ◌+◌, ◌/◌, ◌%◌, ◌<◌, ◌≤◌, ◌^◌, true, List, ◌∷◌, ◌++◌, Option, Some, None, ℤ, refl, arith, IfSome}
use Rattle.std.specs.Prelude.{codes}
use Rattle.std.specs.Fmt.{decimal}
use Rattle.std.specs.Int.{IsInRange}
use Rattle.std.specs.List.{All}
use Rattle.std.specs.Option.{option_map}
use Rattle.std.proofs.lemmas.Bool.Decides.{nat_tests}
use Rattle.std.proofs.lemmas.Fmt.{decimal_is_IsNumeral}
use Rattle.std.proofs.lemmas.List.{append-nil}
use Rattle.std.proofs.lemmas.List.Elements.{All-weaker, All-from_get_or}
use Rattle.std.proofs.lemmas.List.Sums.{list_all-from_AllPass}
use Rattle.std.proofs.lemmas.Str.Parse.{digit_at}
use Rattle.base64.specs.Engines.{url_safe_no_pad}
use Rattle.base64.specs.GeneralPurpose.{encode_of, engine_symbols, IsBytes}
use Rattle.base64.specs.Rfc4648.{encode_symbols}
use Rattle.rpki_base.specs.Civil.{IsMoment, civil_at}
use Rattle.rpki_base.specs.TimeText.{two, FitsDigits, rfc3339_text}
use Rattle.rpki_base.proofs.Civils.{civil_at_is}
use Rattle.rpki_base.proofs.Times.{fits_digits}
use Rattle.rpki_xmltext.proofs.Base64s.{is_black, black_trimmed, symbols-octets}
use Rattle.rpki_xmltext.proofs.Uris.{all_weaker}
use Rattle.rpki_sets.specs.declared.run.Run.{Run}
use Rattle.rpki_sets.specs.AsNumbers.{as_text}
use Rattle.rpki_sets.specs.Ipv4Addresses.{ipv4_blocks_text}
use Rattle.rpki_sets.specs.Ipv6Addresses.{ipv6_blocks_text}
use Rattle.rpki_sets.specs.Kinds.{is_set_octet}
use Rattle.rpki_sets.specs.Runs.{IsSet}
use Rattle.rpki_sets.proofs.Printed.{as_set_octets, ipv4_set_octets, ipv6_set_octets, set_octet_visible}
use Rattle.rpki_xml.specs.Content.{trimmed}
use Rattle.rpki_xml.specs.Lettered.{AreOctets}
use Rattle.rpki_xml.specs.Lexing.{is_octet}

-- ---- sets

visible : (c : ℕ) → 33 ≤ c → c ≤ 126 → is_octet c ≡ true
visible c l h = grind (arith, nat_tests)

set_octet : (c : ℕ) → is_set_octet c ≡ true → is_octet c ≡ true
set_octet c h = let v = set_octet_visible c h in visible c v.0 v.1

pub as_octets : (runs : List Run) → IsSet 32 runs → AreOctets (as_text runs)
as_octets runs set = all_weaker is_set_octet is_octet set_octet (as_text runs) (as_set_octets runs set)

pub ipv4_octets : (runs : List Run) → IsSet 32 runs → AreOctets (ipv4_blocks_text runs)
ipv4_octets runs set = all_weaker is_set_octet is_octet set_octet (ipv4_blocks_text runs) (ipv4_set_octets runs set)

pub ipv6_octets : (runs : List Run) → IsSet 128 runs → AreOctets (ipv6_blocks_text runs)
ipv6_octets runs set = all_weaker is_set_octet is_octet set_octet (ipv6_blocks_text runs) (ipv6_set_octets runs set)

-- what is written of a set that may be absent
pub stated_octets : (text : List Run → List ℕ) (P : List Run → Type 0) → ((runs : List Run) → P runs → AreOctets (text runs)) → (stated : Option (List Run)) → IfSome stated P
    → IfSome (option_map text stated) AreOctets
stated_octets text P each None h = tt
stated_octets text P each (Some runs) h = each runs h

-- ---- times

digits_octets : (n : ℕ) (rest : List ℕ) → n < 100 → AreOctets rest → AreOctets (two n ++ rest)
digits_octets n rest lt h = rw (visible (48 + n / 10) (omega arith) (omega arith), visible (48 + n % 10) (omega arith) (omega arith)) h

below_hundred : (y : ℕ) → y < 10000 → y / 100 < 100
below_hundred y h = omega arith

pub time_octets : (s : ℤ) → IsMoment s → AreOctets (rfc3339_text (civil_at s))
time_octets s m =
    let c = civil_at s in
    let h : FitsDigits (civil_at s) = fits_digits (civil_at s) s (civil_at_is s m) in
    let z : List ℕ = codes "Z" in
    let minutes : List ℕ = 58 ∷ (two c.second ++ z) in
    let hours : List ℕ = 58 ∷ (two c.minute ++ minutes) in
    let days : List ℕ = 84 ∷ (two c.hour ++ hours) in
    let months : List ℕ = 45 ∷ (two c.day ++ days) in
    let years : List ℕ = 45 ∷ (two c.month ++ months) in
    let b : AreOctets minutes = digits_octets c.second z h.5 refl in
    let d : AreOctets hours = digits_octets c.minute minutes h.4 b in
    let e : AreOctets days = digits_octets c.hour hours h.3 d in
    let f : AreOctets months = digits_octets c.day days h.2 e in
    let g : AreOctets years = digits_octets c.month months h.1 f in
    digits_octets (c.year / 100) (two (c.year % 100) ++ years) (below_hundred c.year h.0) (digits_octets (c.year % 100) years (omega arith) g)

-- ---- keys

pub key_octets : (key : List ℕ) → IsBytes key → AreOctets (encode_of url_safe_no_pad key)
key_octets key h = rw (append-nil (encode_symbols (engine_symbols url_safe_no_pad) key)) (symbols-octets (engine_symbols url_safe_no_pad) key refl refl h)

-- ---- numbers

digit : (c : ℕ) → IsInRange 48 57 c → (is_octet c ≡ true) × (is_black c ≡ true)
digit c h = (grind (arith, nat_tests), grind (arith, nat_tests))

digits : (n : ℕ) → n < 2 ^ 64 → All (λ c. (is_octet c ≡ true) × (is_black c ≡ true)) (decimal n)
digits n lt = All-from_get_or (λ c. (is_octet c ≡ true) × (is_black c ≡ true)) (decimal n) 0 (λ i h. digit _ (digit_at (decimal n) i (decimal_is_IsNumeral n lt).0.1 h))

pub number_octets : (n : ℕ) → n < 2 ^ 64 → AreOctets (decimal n)
number_octets n lt = list_all-from_AllPass is_octet (decimal n) (All-weaker (λ c. (is_octet c ≡ true) × (is_black c ≡ true)) (λ c. is_octet c ≡ true) (λ c h. h.0) (decimal n) (digits n lt))

pub number_trimmed : (n : ℕ) → n < 2 ^ 64 → trimmed (decimal n) ≡ decimal n
number_trimmed n lt =
    black_trimmed (decimal n) (list_all-from_AllPass is_black (decimal n) (All-weaker (λ c. (is_octet c ≡ true) × (is_black c ≡ true)) (λ c. is_black c ≡ true) (λ c h. h.1) (decimal n) (digits n lt)))
