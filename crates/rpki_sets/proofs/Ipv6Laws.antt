-- IPv6 addresses are a lawful kind.
use Rattle.std.proofs.Common.{◌≡◌, ℕ, zero, suc, ◌^◌, ◌<◌, ◌≤◌, inl, inr, Bool, Option, None, Some, List, [], ◌∷◌, ◌++◌, length, replicate, get_or, codes, refl, sym, subst, ap, ◌∙◌, arith, lit≤, append-nil, length-append}
use Rattle.std.specs.List.{All}
use Rattle.std.specs.Int.{w128, from_be_bytes, to_be_bytes}
use Rattle.std.specs.Net.Addr.{octets_of, segments_of}
use Rattle.std.specs.Net.Grammar.{IsDotted, IsGroup, IsGroupsAfter, IsElided, IsColonHex}
use Rattle.std.specs.Net.Text.{hex_groups_text}
use Rattle.std.specs.Net.Reader.{read_ipv6, read_segments, read_segment, read_ipv4, read_octet, read_number, whole_value}
use Rattle.std.proofs.Math.Nat.{pow-le-pow_right}
use Rattle.std.proofs.lemmas.Int.Digits.{digits_value-lt}
use Rattle.std.proofs.lemmas.List.{length-replicate}
use Rattle.std.proofs.lemmas.List.Elements.{All-weaker}
use Rattle.std.proofs.NetLemmas.Arrays.{eight_items}
use Rattle.std.proofs.NetLemmas.Alphabet.{IsHexOrColon, All-hex_groups_text}
use Rattle.std.proofs.NetLemmas.Texts.{IsColonHex-hex_groups_text}
use Rattle.std.proofs.NetLemmas.Ipv6.{read_ipv6_complete, read_ipv6_sound, EndsGroups-nil}
use Rattle.rpki_common.specs.Chaining.{◌>>=◌}
use Rattle.rpki_sets.specs.Kinds.{IsLawfulKind, IsPlain}
use Rattle.rpki_sets.specs.Ipv6Addresses.{ipv6_number, ipv6_number_text, ipv6_kind}
use Rattle.rpki_sets.proofs.Fitting.{bind_some}
use Rattle.rpki_sets.proofs.BigEndian.{bytes_small, octets_of-segments_of, segments_small, from_be_bytes-to_be_bytes_16}
use Rattle.rpki_sets.proofs.Wholes.{whole_value-some, whole_value-all}

-- groups are read as their number
pub ipv6_number-colon_hex : (text segments : List ℕ) → IsColonHex text segments → ipv6_number text ≡ Some (from_be_bytes w128 (octets_of segments))
unfolding ipv6_number ◌>>=◌
ipv6_number-colon_hex text segments h =
    let read : read_ipv6 text ≡ Some (segments, []) = ap read_ipv6 (sym (append-nil text)) ∙ read_ipv6_complete text segments [] h EndsGroups-nil in
    rw (whole_value-all segments (read_ipv6 text) read) refl

-- what is read are groups
pub ipv6_number-sound : (text : List ℕ) (n : ℕ) → ipv6_number text ≡ Some n → (segments : List ℕ) × IsColonHex text segments × (n ≡ from_be_bytes w128 (octets_of segments))
unfolding ipv6_number
ipv6_number-sound text n e =
    bind_some (whole_value (read_ipv6 text)) (λ segments. Some (from_be_bytes w128 (octets_of segments))) n e
    (λ segments h g.
    let read = whole_value-some segments (read_ipv6 text) h in
    let (front, split, groups) = read_ipv6_sound text segments [] read in
    (segments, rw (split ∙ append-nil front) groups, cc))

-- where the text is no eight groups, nothing is read
pub ipv6_number-none : (text : List ℕ) → ((segments : List ℕ) → ¬ (IsColonHex text segments)) → ipv6_number text ≡ None
ipv6_number-none text nothing = by_answer (ipv6_number text) refl
  where
    by_answer : (o : Option ℕ) → ipv6_number text ≡ o → o ≡ None
    by_answer None e = refl
    by_answer (Some n) e = let found = ipv6_number-sound text n e in absurd (nothing found.0 found.1)

-- ---- groups have 16 bits

AllSmall : List ℕ → Type 0
AllSmall [] = Unit {0}
AllSmall (s ∷ more) = (s < 65536) × AllSmall more

group_small : (group : List ℕ) (s : ℕ) → IsGroup group s → s < 65536
group_small group s h =
    let below = digits_value-lt 16 group h.0.0.1 in
    let short : 16 ^ length group ≤ 16 ^ 4 = pow-le-pow_right (omega arith) h.1 in
    let value = h.0.1 in
    omega arith

AllSmall-dotted : (last octets : List ℕ) → IsDotted last octets → AllSmall (segments_of octets)
unfolding AllSmall
AllSmall-dotted last octets h =
    let f = h.fit in
    rw h.value (omega arith, (omega arith, tt))

AllSmall-groups : (ipv4 : Bool) (lead text segments : List ℕ) → IsGroupsAfter ipv4 lead text segments → AllSmall segments
unfolding AllSmall
AllSmall-groups ipv4 lead text [] h = tt
AllSmall-groups ipv4 lead text (s ∷ more) (inl h) = (group_small h.0 s h.3, AllSmall-groups ipv4 (codes ":") h.1 more h.4)
AllSmall-groups ipv4 lead text (s ∷ more) (inr h) = subst AllSmall (sym h.5) (AllSmall-dotted h.0 h.1 h.4)

AllSmall-append : (xs ys : List ℕ) → AllSmall xs → AllSmall ys → AllSmall (xs ++ ys)
unfolding AllSmall
AllSmall-append [] ys h k = k
AllSmall-append (x ∷ xs) ys h k = (h.0, AllSmall-append xs ys h.1 k)

AllSmall-zeros : (n : ℕ) → AllSmall (replicate n 0)
unfolding AllSmall
AllSmall-zeros zero = tt
AllSmall-zeros (suc n) = (omega arith, AllSmall-zeros n)

record IsEight (segments : List ℕ) : Type 0 where
  small : AllSmall segments
  long : length segments ≡ 8

IsEight-elided : (text segments : List ℕ) → IsElided text segments → IsEight segments
IsEight-elided text segments h =
    let room = h.room in
    let value = h.value in
    record {
      small = subst AllSmall (sym value) (AllSmall-append _ _ (AllSmall-append _ _ (AllSmall-groups _ _ _ _ h.head_groups) (AllSmall-zeros _)) (AllSmall-groups _ _ _ _ h.tail_groups));
      long = ap length value ∙ simp (length-append, length-replicate) (omega arith);
    }

IsEight-colon_hex : (text segments : List ℕ) → IsColonHex text segments → IsEight segments
IsEight-colon_hex text segments (inl h) = record { small = AllSmall-groups _ _ _ _ h.0; long = h.1 }
IsEight-colon_hex text segments (inr h) = IsEight-elided text segments h

eight_below : (a b c d e f g h : ℕ) → a < 65536 → b < 65536 → c < 65536 → d < 65536 → e < 65536 → f < 65536 → g < 65536 → h < 65536
    → from_be_bytes w128 (octets_of (a ∷ b ∷ c ∷ d ∷ e ∷ f ∷ g ∷ h ∷ [])) < 2 ^ 128
eight_below a b c d e f g h pa pb pc pd pe pf pg ph = omega arith

small_at : (xs : List ℕ) (k : ℕ) → AllSmall xs → get_or xs k 0 < 65536
unfolding AllSmall
small_at [] k h = omega arith
small_at (x ∷ xs) zero h = h.0
small_at (x ∷ xs) (suc k) h = small_at xs k h.1

below : (segments : List ℕ) → IsEight segments → from_be_bytes w128 (octets_of segments) < 2 ^ 128
below segments eight =
    let at : (k : ℕ) → get_or segments k 0 < 65536 = λ k. small_at segments k eight.small in
    subst (λ s. from_be_bytes w128 (octets_of s) < 2 ^ 128) (sym (eight_items segments eight.long))
    (eight_below _ _ _ _ _ _ _ _ (at 0) (at 1) (at 2) (at 3) (at 4) (at 5) (at 6) (at 7))

ipv6_within : (text : List ℕ) (n : ℕ) → ipv6_number text ≡ Some n → n < 2 ^ 128
ipv6_within text n e =
    let found = ipv6_number-sound text n e in
    rw found.2 (below found.0 (IsEight-colon_hex text found.0 found.1))

ipv6_again : (n : ℕ) → n < 2 ^ 128 → ipv6_number (ipv6_number_text n) ≡ Some n
unfolding ipv6_number_text
ipv6_again n small =
    let bytes = bytes_small 16 n in
    ipv6_number-colon_hex (hex_groups_text (segments_of (to_be_bytes w128 n))) (segments_of (to_be_bytes w128 n)) (IsColonHex-hex_groups_text (segments_of (to_be_bytes w128 n)) refl (segments_small (to_be_bytes w128 n) bytes))
    ∙ ap (λ octets. Some (from_be_bytes w128 octets)) (octets_of-segments_of 8 (to_be_bytes w128 n) refl bytes)
    ∙ ap Some (from_be_bytes-to_be_bytes_16 n small)

ipv6_plain : (n : ℕ) → n < 2 ^ 128 → All IsPlain (ipv6_number_text n)
unfolding ipv6_number_text
ipv6_plain n small =
    All-weaker IsHexOrColon IsPlain (λ octet h. (omega arith, omega arith, omega arith, omega arith)) _ (All-hex_groups_text (segments_of (to_be_bytes w128 n)) (segments_small (to_be_bytes w128 n) (bytes_small 16 n)))

ipv6_empty : ipv6_number [] ≡ None
unfolding ipv6_number read_ipv6 read_segments read_segment read_ipv4 read_octet read_number ◌>>=◌
ipv6_empty = refl

pub ipv6_lawful : IsLawfulKind ipv6_kind
ipv6_lawful = record { bounded = lit≤ tt; within = ipv6_within; again = ipv6_again; empty = ipv6_empty; plain = ipv6_plain }
