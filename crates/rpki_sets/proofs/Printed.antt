-- What is printed of sets of the three kinds is read as the same sets, and consists of octets that stand for themselves.
use Rattle.std.proofs.Common.{◌≡◌, ◌≢◌, ℕ, ◌^◌, ◌<◌, ◌≤◌, true, cond, eqb, None, Some, Option, List, [], ◌∷◌, arith, refl, subst}
use Rattle.std.specs.Fmt.{decimal}
use Rattle.std.specs.Int.{IsInRange, w32, w128, to_be_bytes}
use Rattle.std.specs.List.{All, list_all}
use Rattle.std.specs.Net.Addr.{segments_of}
use Rattle.std.proofs.lemmas.Bool.{cond_both}
use Rattle.std.proofs.lemmas.Bool.Decides.{nat_tests}
use Rattle.std.proofs.lemmas.Fmt.{decimal_is_IsNumeral}
use Rattle.std.proofs.lemmas.List.Elements.{All-nil, All-cons, All-append, All-weaker, All-from_get_or}
use Rattle.std.proofs.lemmas.List.Sums.{list_all-from_AllPass}
use Rattle.std.proofs.lemmas.Str.Parse.{digit_at}
use Rattle.std.proofs.NetLemmas.Alphabet.{IsDigitOrDot, IsHexOrColon, All-ipv4_text, All-hex_groups_text}
use Rattle.rpki_sets.specs.declared.run.Run.{Run}
use Rattle.rpki_sets.specs.Runs.{IsSet, union}
use Rattle.rpki_sets.specs.Prefixes.{prefix_length}
use Rattle.rpki_sets.specs.Kinds.{Kind, IsLawfulKind, runs_of, blocks_of, range_text, prefix_or_range_text, run_text, printed, is_set_octet}
use Rattle.rpki_sets.specs.AsNumbers.{as_kind}
use Rattle.rpki_sets.specs.Ipv4Addresses.{ipv4_number_text, ipv4_kind}
use Rattle.rpki_sets.specs.Ipv6Addresses.{ipv6_number_text, ipv6_kind}
use Rattle.rpki_sets.proofs.AsLaws.{as_lawful}
use Rattle.rpki_sets.proofs.BigEndian.{bytes_small, segments_small}
use Rattle.rpki_sets.proofs.Fitted.{head_fits, tail_set}
use Rattle.rpki_sets.proofs.Fitting.{IsFit, bind_some, AllFit-runs_of, IsSet-union}
use Rattle.rpki_sets.proofs.Ipv4Laws.{ipv4_lawful}
use Rattle.rpki_sets.proofs.Ipv6Laws.{ipv6_lawful}
use Rattle.rpki_sets.proofs.PrefixLemmas.{prefix_length-sound}
use Rattle.rpki_sets.proofs.ReadBack.{blocks_of-text_of}

-- ---- it is read again

pub as_read_again : (runs : List Run) → IsSet 32 runs → blocks_of as_kind (printed as_kind runs) ≡ Some runs
as_read_again runs set = blocks_of-text_of as_kind as_lawful runs set

pub ipv4_read_again : (runs : List Run) → IsSet 32 runs → blocks_of ipv4_kind (printed ipv4_kind runs) ≡ Some runs
ipv4_read_again runs set = blocks_of-text_of ipv4_kind ipv4_lawful runs set

pub ipv6_read_again : (runs : List Run) → IsSet 128 runs → blocks_of ipv6_kind (printed ipv6_kind runs) ≡ Some runs
ipv6_read_again runs set = blocks_of-text_of ipv6_kind ipv6_lawful runs set

-- ---- what is read is a set

set_read : (kind : Kind) → IsLawfulKind kind → (text : List ℕ) (runs : List Run) → blocks_of kind text ≡ Some runs → IsSet kind.width runs
unfolding blocks_of
set_read kind lawful text runs e =
    bind_some (runs_of kind text) (λ found. Some (union found)) runs e
    (λ found h g.
    let same : union found ≡ runs = cc in
    subst (IsSet kind.width) same (IsSet-union kind lawful found (AllFit-runs_of kind lawful text found h)))

pub as_set_read : (text : List ℕ) (runs : List Run) → blocks_of as_kind text ≡ Some runs → IsSet 32 runs
as_set_read text runs e = set_read as_kind as_lawful text runs e

pub ipv4_set_read : (text : List ℕ) (runs : List Run) → blocks_of ipv4_kind text ≡ Some runs → IsSet 32 runs
ipv4_set_read text runs e = set_read ipv4_kind ipv4_lawful text runs e

pub ipv6_set_read : (text : List ℕ) (runs : List Run) → blocks_of ipv6_kind text ≡ Some runs → IsSet 128 runs
ipv6_set_read text runs e = set_read ipv6_kind ipv6_lawful text runs e

-- ---- its octets

abbrev IsSetOctet : ℕ → Type 0
IsSetOctet octet = is_set_octet octet ≡ true

digit_octet : (c : ℕ) → IsInRange 48 57 c → IsSetOctet c
digit_octet c h = grind (arith, nat_tests)

dot_octet : (c : ℕ) → IsDigitOrDot c → IsSetOctet c
dot_octet c h = grind (arith, nat_tests)

hex_octet : (c : ℕ) → IsHexOrColon c → IsSetOctet c
hex_octet c h = grind (arith, nat_tests)

decimal_octets : (n : ℕ) → n < 2 ^ 32 → All IsSetOctet (decimal n)
decimal_octets n small = All-from_get_or IsSetOctet (decimal n) 0 (λ i h. digit_octet _ (digit_at (decimal n) i (decimal_is_IsNumeral n (omega arith)).0.1 h))

module _ (kind : Kind) (bounded : kind.width ≤ 128) (plain : (n : ℕ) → n < 2 ^ kind.width → All IsSetOctet (kind.number_text n)) where
  module _ (run : Run) (fit : IsFit kind.width run) where
    first_octets : All IsSetOctet (kind.number_text run.first)
    first_octets = let up = fit.ordered in let top = fit.within in plain run.first (omega arith)

    range_octets : All IsSetOctet (range_text kind run)
    range_octets =
        All-append IsSetOctet (kind.number_text run.first) (45 ∷ kind.number_text run.last) first_octets (All-cons IsSetOctet 45 (kind.number_text run.last) refl (plain run.last fit.within))

    octets_by_length : (o : Option ℕ) → prefix_length kind.width run ≡ o → All IsSetOctet (prefix_or_range_text kind run o)
    octets_by_length None e = range_octets
    octets_by_length (Some len) e =
        let sound = prefix_length-sound kind.width run len e in
        All-append IsSetOctet (kind.number_text run.first) (47 ∷ decimal len) first_octets (All-cons IsSetOctet 47 (decimal len) refl (decimal_octets len (omega arith)))

    run_octets : All IsSetOctet (run_text kind run)
    unfolding run_text
    run_octets =
        cond_both kind.has_prefixes (prefix_or_range_text kind run (prefix_length kind.width run)) (cond (eqb run.first run.last) (kind.number_text run.first) (range_text kind run)) (All IsSetOctet)
        (λ p. octets_by_length (prefix_length kind.width run) refl)
        (λ p. cond_both (eqb run.first run.last) (kind.number_text run.first) (range_text kind run) (All IsSetOctet) (λ e. first_octets) (λ e. range_octets))

  text_octets : (runs : List Run) → IsSet kind.width runs → All IsSetOctet (printed kind runs)
  unfolding printed
  text_octets [] set = All-nil IsSetOctet
  text_octets (run ∷ []) set = All-append IsSetOctet (run_text kind run) [] (run_octets run (head_fits kind.width run [] set)) (All-nil IsSetOctet)
  text_octets (run ∷ next ∷ rest) set =
      All-append IsSetOctet (run_text kind run) (44 ∷ printed kind (next ∷ rest)) (run_octets run (head_fits kind.width run (next ∷ rest) set))
      (All-cons IsSetOctet 44 (printed kind (next ∷ rest)) refl (text_octets (next ∷ rest) (tail_set kind.width run (next ∷ rest) set)))

  set_octets : (runs : List Run) → IsSet kind.width runs → list_all is_set_octet (printed kind runs) ≡ true
  set_octets runs set = list_all-from_AllPass is_set_octet (printed kind runs) (text_octets runs set)

ipv4_octets : (n : ℕ) → n < 2 ^ 32 → All IsSetOctet (ipv4_number_text n)
unfolding ipv4_number_text
ipv4_octets n small = All-weaker IsDigitOrDot IsSetOctet dot_octet _ (All-ipv4_text (to_be_bytes w32 n) (bytes_small 4 n))

ipv6_octets : (n : ℕ) → n < 2 ^ 128 → All IsSetOctet (ipv6_number_text n)
unfolding ipv6_number_text
ipv6_octets n small = All-weaker IsHexOrColon IsSetOctet hex_octet _ (All-hex_groups_text (segments_of (to_be_bytes w128 n)) (segments_small (to_be_bytes w128 n) (bytes_small 16 n)))

pub as_set_octets : (runs : List Run) → IsSet 32 runs → list_all is_set_octet (printed as_kind runs) ≡ true
as_set_octets runs set = set_octets as_kind as_lawful.bounded decimal_octets runs set

pub ipv4_set_octets : (runs : List Run) → IsSet 32 runs → list_all is_set_octet (printed ipv4_kind runs) ≡ true
ipv4_set_octets runs set = set_octets ipv4_kind ipv4_lawful.bounded ipv4_octets runs set

pub ipv6_set_octets : (runs : List Run) → IsSet 128 runs → list_all is_set_octet (printed ipv6_kind runs) ≡ true
ipv6_set_octets runs set = set_octets ipv6_kind ipv6_lawful.bounded ipv6_octets runs set

pub set_octet_visible : (octet : ℕ) → is_set_octet octet ≡ true → (33 ≤ octet) × (octet ≤ 126)
set_octet_visible octet h = (grind (arith, nat_tests), grind (arith, nat_tests))

pub set_octet_itself : (octet : ℕ) → is_set_octet octet ≡ true → (octet ≢ 34) × (octet ≢ 38) × (octet ≢ 39) × (octet ≢ 60) × (octet ≢ 62)
set_octet_itself octet h = (λ e. grind (arith, nat_tests), λ e. grind (arith, nat_tests), λ e. grind (arith, nat_tests), λ e. grind (arith, nat_tests), λ e. grind (arith, nat_tests))
