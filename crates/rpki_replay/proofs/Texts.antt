-- The line of a peer, and what is read of it.
use Rattle.std.proofs.Common.{◌≡◌, ◌/◌, ◌%◌, ◌^◌, ◌<◌, ℕ, ℤ, suc, pos, negsuc, Bool, true, false, nat_eq, not, bytes_eq, Option, None, Some, Result, Ok, Err, List, [], ◌∷◌, All, length, slice_index, w64, FitsSigned, to_z, of_z, IsSome, IfSome, append-nil, refl, sym, ap, subst, ◌∙◌, arith}
use Rattle.std.specs.List.{join_with_byte}
use Rattle.std.specs.Fmt.{decimal, signed_decimal}
use Rattle.std.specs.Int.Signed.{mag}
use Rattle.std.specs.Result.{result_ok}
use Rattle.std.specs.Str.{IsUtf8}
use Rattle.std.specs.Str.Parse.{ParsesSigned}
use Rattle.std.proofs.lemmas.Bool.{ne_eqb}
use Rattle.std.proofs.lemmas.Slice.Eq.{bytes_eq-Decides}
use Rattle.std.proofs.lemmas.Fmt.{parse-signed_decimal, IsAscii-signed, signed_decimal_injective, decimal_is_IsNumeral}
use Rattle.std.proofs.lemmas.Int.{fits_signed_from_abs, ints}
use Rattle.std.proofs.lemmas.Str.{IsUtf8-from_ascii}
use Rattle.std.proofs.lemmas.Str.Parse.{digit_at}
use Rattle.std.proofs.lemmas.List.Elements.{All-nil, All-cons, All-append, All-from_get_or}
use Rattle.std.proofs.lemmas.List.Splits.{slice_split_at, slice_split_none, join_with_byte-slice_split}
use Rattle.hex.specs.Hex.{hex_digit_value, lower_digits, encode_with, encode_lower, decode_of, IsBytes}
use Rattle.hex.proofs.HexLemmas.{IsDigits-lower_digits, decode_of-encode_lower}
use Rattle.std.proofs.Math.Facts.{to_z-of_z}
use Rattle.rpki_der.specs.Value.{Begins}
use Rattle.rpki_der.specs.declared.mode.Mode.TheVariants.{Der}
use Rattle.rpki_base.specs.Civil.{IsMoment}
use Rattle.rpki_base.specs.PublicKey.{KeyFields, spelled_key}
use Rattle.rpki_base.proofs.Keys.{written_key}
use Rattle.rpki_ca.proofs.Spelled.{key_there}
use Rattle.rpki_ca.specs.Lines.{words_of}
use Rattle.rpki_ca.specs.Words.{key_of_word}
use Rattle.rpki_ca.proofs.Cutting.{IsOneLine}
use Rattle.rpki_replay.specs.declared.peers.Peer.{Peer}
use Rattle.rpki_replay.specs.State.{IsPeer}
use Rattle.rpki_replay.specs.StateText.{peer_line}

-- ---- an octet that isn't there

abbrev pub IsApart : ℕ → List ℕ → Type 0
IsApart c octets = All (λ octet. nat_eq octet c ≡ false) octets

digit_apart : (c v : ℕ) → hex_digit_value c ≡ None → v < 16 → nat_eq (slice_index lower_digits v) c ≡ false
digit_apart c v none lt =
    ne_eqb _ _ (λ same. let some : hex_digit_value c ≡ Some v = ap hex_digit_value (sym same) ∙ IsDigits-lower_digits v lt in let both : None ≡ Some v = sym none ∙ some in cc)

behind : (b : ℕ) (rest : List ℕ) → IsBytes (b ∷ rest) → IsBytes rest
behind b rest h i = h (suc i)

pub hex_apart : (c : ℕ) (octets : List ℕ) → hex_digit_value c ≡ None → IsBytes octets → IsApart c (encode_lower octets)
unfolding encode_with
hex_apart c [] none bytes = All-nil (λ octet. nat_eq octet c ≡ false)
hex_apart c (b ∷ rest) none bytes =
    let small : b < 256 = bytes 0 in
    let P : ℕ → Type 0 = λ octet. nat_eq octet c ≡ false in
    All-cons P (slice_index lower_digits (b / 16)) (slice_index lower_digits (b % 16) ∷ encode_lower rest) (digit_apart c (b / 16) none (omega (arith, small)))
    (All-cons P (slice_index lower_digits (b % 16)) (encode_lower rest) (digit_apart c (b % 16) none (omega arith)) (hex_apart c rest none (behind b rest bytes)))

pub moment_small : (z : ℤ) → IsMoment z → mag z < 2 ^ 63
moment_small (pos n) h = let most = h.1 in omega (arith, ints)
moment_small (negsuc n) h = let least = h.0 in omega (arith, ints)

decimal_apart : (c n : ℕ) → c < 45 → n < 2 ^ 64 → IsApart c (decimal n)
decimal_apart c n less small =
    All-from_get_or (λ octet. nat_eq octet c ≡ false) (decimal n) 0
    (λ i lt. let digit = digit_at (decimal n) i (decimal_is_IsNumeral n small).0.1 lt in ne_eqb _ _ (λ same. omega (arith, digit, same, less)))

pub number_apart : (c : ℕ) (z : ℤ) → c < 45 → mag z < 2 ^ 63 → IsApart c (signed_decimal z)
number_apart c (pos n) less small = decimal_apart c n less (omega (arith, small))
number_apart c (negsuc n) less small =
    All-cons (λ octet. nat_eq octet c ≡ false) 45 (decimal (suc n)) (ne_eqb 45 c (λ same. omega arith)) (decimal_apart c (suc n) less (omega (arith, small)))

-- ---- the words of a line

abbrev pub key_word : Peer → List ℕ
key_word peer = encode_lower (spelled_key peer.key)

abbrev pub time_word : Peer → List ℕ
time_word peer = signed_decimal peer.last

pub line_words : (peer : Peer) → IsPeer peer → words_of (peer_line peer) ≡ key_word peer ∷ time_word peer ∷ []
line_words peer is =
    slice_split_at (λ octet. nat_eq octet 32) (key_word peer) 32 (time_word peer) (hex_apart 32 (spelled_key peer.key) refl is.octets) refl
    ∙ ap (λ (l : List (List ℕ)). key_word peer ∷ l) (slice_split_none (λ octet. nat_eq octet 32) (time_word peer) (number_apart 32 peer.last (omega arith) (moment_small peer.last is.moment)))

pub one_line : (peer : Peer) → IsPeer peer → IsOneLine (peer_line peer)
one_line peer is =
    let P : ℕ → Type 0 = λ octet. nat_eq octet 10 ≡ false in
    All-append P (key_word peer) (32 ∷ time_word peer) (hex_apart 10 (spelled_key peer.key) refl is.octets)
    (All-cons P 32 (time_word peer) refl (number_apart 10 peer.last (omega arith) (moment_small peer.last is.moment)))

-- a line of one word is none
pub no_words : (line : List ℕ) (peer : Peer) → words_of line ≡ line ∷ [] → IsPeer peer → line ≡ peer_line peer → ⊥
no_words line peer one is same =
    let two : words_of line ≡ key_word peer ∷ time_word peer ∷ [] = ap (λ (l : List ℕ). words_of l) same ∙ line_words peer is in
    let lengths : length (line ∷ []) ≡ length (key_word peer ∷ time_word peer ∷ []) = ap (λ (l : List (List ℕ)). length l) (sym one ∙ two) in
    omega (arith, lengths)

-- what stands before the space, and what stands behind it
pub word_parts : (line key seconds : List ℕ) (peer : Peer) → words_of line ≡ key ∷ words_of seconds → IsPeer peer → line ≡ peer_line peer → (key ≡ key_word peer) × (seconds ≡ time_word peer)
word_parts line key seconds peer cut is same =
    let both : key ∷ words_of seconds ≡ key_word peer ∷ time_word peer ∷ [] = sym cut ∙ ap (λ (l : List ℕ). words_of l) same ∙ line_words peer is in
    let head : key ≡ key_word peer = cc in
    let tail : words_of seconds ≡ time_word peer ∷ [] = cc in
    (head, sym (join_with_byte-slice_split 32 seconds) ∙ ap (λ (l : List (List ℕ)). join_with_byte 32 l) tail)

-- ---- the time

fits : (z : ℤ) → IsMoment z → FitsSigned w64 z
fits (pos n) h = let most = h.1 in fits_signed_from_abs w64 (pos n) (omega (arith, ints))
fits (negsuc n) h = let least = h.0 in fits_signed_from_abs w64 (negsuc n) (omega (arith, ints))

pub time_parsed : {E : Type 0} (word text : List ℕ) (r : Result ℤ E) (when : ℤ) → IsMoment when → word ≡ signed_decimal when → text ≡ word → ParsesSigned w64 10 text r → r ≡ Ok when
time_parsed word text r when is same t p = parse-signed_decimal w64 when text r (fits when is) (moment_small when is) (t ∙ same) p

pub time_is_text : (word : List ℕ) (when : ℤ) → IsMoment when → word ≡ signed_decimal when → IsUtf8 word
time_is_text word when is same = subst (λ (l : List ℕ). IsUtf8 l) (sym same) (IsUtf8-from_ascii (signed_decimal when) (IsAscii-signed when (moment_small when is)))

made : (o : Option ℤ) (z when : ℤ) → z ≡ when → IsMoment when → (IsMoment z → IsSome o) → IfSome o (λ t. t ≡ z) → o ≡ Some when
made None z when e is some value = absurd (no (some (subst IsMoment (sym e) is)))
  where
    no : false ≡ true → ⊥
    no k = cc
made (Some t) z when e is some value = ap (λ (k : ℤ). Some k) (value ∙ e)

pub time_made : {E : Type 0} (word text : List ℕ) (r : Result ℤ E) (seconds when : ℤ) (o : Option ℤ) → IsMoment when → word ≡ signed_decimal when → text ≡ word → ParsesSigned w64 10 text r → r ≡ Ok seconds
    → (IsMoment (to_z w64 (of_z w64 seconds)) → IsSome o) → IfSome o (λ t. t ≡ to_z w64 (of_z w64 seconds)) → o ≡ Some when
time_made word text r seconds when o is same t p ok some value =
    let both : Ok seconds ≡ Ok when = sym ok ∙ time_parsed word text r when is same t p in
    let one : seconds ≡ when = cc in
    made o (to_z w64 (of_z w64 seconds)) when (ap (λ (k : ℤ). to_z w64 (of_z w64 k)) one ∙ to_z-of_z (fits when is)) is some value

pub time_not_refused : {E : Type 0} (word text : List ℕ) (r : Result ℤ E) (e : E) (when : ℤ) → IsMoment when → word ≡ signed_decimal when → text ≡ word → ParsesSigned w64 10 text r → r ≡ Err e → ⊥
time_not_refused word text r e when is same t p err = let both : Err e ≡ Ok when = sym err ∙ time_parsed word text r when is same t p in cc

-- ---- the key

pub key_spelled : (peer : Peer) → IsPeer peer → key_of_word (key_word peer) ≡ Some peer.key
key_spelled peer is =
    let w = written_key Der peer.key [] is.spelled in
    let decoded : result_ok (decode_of (key_word peer)) ≡ Some (spelled_key peer.key) = ap result_ok (decode_of-encode_lower (spelled_key peer.key) is.octets) in
    let begins : Begins Der (spelled_key peer.key) w.0 [] = subst (λ (l : List ℕ). Begins Der l w.0 []) (append-nil (spelled_key peer.key)) w.1 in
    sym (key_there (key_word peer) (key_word peer) (spelled_key peer.key) (spelled_key peer.key) peer.key decoded refl refl (record { value = w.0; begins = begins; reads = w.2 }))

-- a line is that of one peer
pub one_peer : (one other : Peer) → IsPeer one → IsPeer other → peer_line one ≡ peer_line other → one ≡ other
one_peer one other is other_is same =
    let cut : words_of (peer_line one) ≡ key_word one ∷ words_of (time_word one) = line_words one is ∙ ap (λ (l : List (List ℕ)). key_word one ∷ l) (sym (slice_split_none (λ octet. nat_eq octet 32) (time_word one) (number_apart 32 one.last (omega arith) (moment_small one.last is.moment)))) in
    let parts = word_parts (peer_line one) (key_word one) (time_word one) other cut other_is same in
    let keys : Some one.key ≡ Some other.key = sym (key_spelled one is) ∙ ap key_of_word parts.0 ∙ key_spelled other other_is in
    let key : one.key ≡ other.key = some_key one.key other.key keys in
    let last : one.last ≡ other.last = signed_decimal_injective one.last other.last (moment_small one.last is.moment) (moment_small other.last other_is.moment) parts.1 in
    λ i. record { key = key i; last = last i }
  where
    some_key : (a b : KeyFields) → Some a ≡ Some b → a ≡ b
    some_key a b e = cc

-- ---- why a line is none

pub no_time : (line key seconds : List ℕ) (peer : Peer) (o : Option ℤ) → words_of line ≡ key ∷ words_of seconds → o ≡ None → ((when : ℤ) → IsMoment when → seconds ≡ signed_decimal when → o ≡ Some when) → IsPeer peer → line ≡ peer_line peer → ⊥
no_time line key seconds peer o cut none found is same =
    let parts = word_parts line key seconds peer cut is same in
    let both : None ≡ Some peer.last = sym none ∙ found peer.last is.moment parts.1 in no_z peer.last both
  where
    no_z : (z : ℤ) → None ≡ Some z → ⊥
    no_z z e = cc

pub no_key : (line key seconds : List ℕ) (peer : Peer) (o : Option KeyFields) → words_of line ≡ key ∷ words_of seconds → o ≡ None → o ≡ key_of_word key → IsPeer peer → line ≡ peer_line peer → ⊥
no_key line key seconds peer o cut none found is same =
    let parts = word_parts line key seconds peer cut is same in
    let both : None ≡ Some peer.key = sym none ∙ found ∙ ap key_of_word parts.0 ∙ key_spelled peer is in no_k peer.key both
  where
    no_k : (k : KeyFields) → None ≡ Some k → ⊥
    no_k k e = cc

pub not_written : (line key seconds written : List ℕ) (peer : Peer) (last : ℤ) (held : KeyFields) → words_of line ≡ key ∷ words_of seconds → Some held ≡ key_of_word key
    → ((when : ℤ) → IsMoment when → seconds ≡ signed_decimal when → Some last ≡ Some when) → written ≡ peer_line (record { key = held; last = last }) → IsPeer peer → line ≡ peer_line peer → written ≡ line
not_written line key seconds written peer last held cut found time is peer_is same =
    let parts = word_parts line key seconds peer cut peer_is same in
    let keys : Some held ≡ Some peer.key = found ∙ ap key_of_word parts.0 ∙ key_spelled peer peer_is in
    let times : Some last ≡ Some peer.last = time peer.last peer_is.moment parts.1 in
    is ∙ ap peer_line (λ i. record { key = some_key held peer.key keys i; last = some_z last peer.last times i }) ∙ sym same
  where
    some_key : (a b : KeyFields) → Some a ≡ Some b → a ≡ b
    some_key a b e = cc

    some_z : (a b : ℤ) → Some a ≡ Some b → a ≡ b
    some_z a b e = cc

pub differs : (one other : List ℕ) → true ≡ not (bytes_eq one other) → one ≡ other → ⊥
differs one other d same = apart_no (bytes_eq one other) ((bytes_eq-Decides one other).1 same) d
  where
    apart_no : (t : Bool) → t ≡ true → true ≡ not t → ⊥
    apart_no true e d = cc
    apart_no false e d = cc
