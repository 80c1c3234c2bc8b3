-- What is read of a URI, step by step.
use Rattle.std.proofs.Common.{◌≡◌, ◌↔◌, ℕ, ◌+◌, ◌-◌, ◌<◌, ◌≤◌, min, Bool, true, false, ◌&&◌, not, nat_lt, if◌then◌else◌, List, [], ◌∷◌, length, take, drop, map, Option, Some, None, IsTrue, MatchOption, Bor, is_some, refl, sym, ap, ◌∙◌, arith}
use Rattle.std.specs.List.{list_all, slice_split, position, position_or_len, after_first}
use Rattle.std.specs.Option.{option_map_or}
use Rattle.std.specs.Cmp.Lexicographic.{bytes_decides}
use Rattle.std.specs.Char.{to_ascii_lowercase}
use Rattle.std.proofs.lemmas.Bool.{false≢true, true≢false}
use Rattle.std.proofs.lemmas.Bool.Decides.{nat_tests, Decides-ltb, same_from_decides}
use Rattle.std.proofs.lemmas.Option.{none-some, same_Some}
use Rattle.std.proofs.lemmas.Grind.{common_steps}
use Rattle.std.proofs.lemmas.List.{take_all, drop_all, take_min, drop_min}
use Rattle.std.proofs.lemmas.List.Sums.{fails_before_first}
use Rattle.std.proofs.lemmas.List.Splits.{slice_split_first, slice_split_none, length-slice_split}
use Rattle.rpki_text.specs.Uri.{is_uri_octet, is_slash, is_empty, has_scheme, parts_behind, has_host_and_module, parts_fault, uri_fault}
use Rattle.rpki_text.specs.declared.uri.Error.{Error}
use Rattle.rpki_text.specs.declared.uri.Error.TheVariants.{TooLong, BadCharacter, BadScheme}

-- the rest of a list, as a slice of it
pub rest_of : (n : ℕ) (xs : List ℕ) → take (length xs - n) (drop n xs) ≡ drop n xs
rest_of n xs = take_all (length xs - n) (drop n xs) (grind (arith, common_steps))

told : (n len : ℕ) (b : Bool) → b ≡ nat_lt n len → (r : Option ℕ) → r ≡ (if b then Some n else None) → MatchOption r (len ≤ n) (λ i. (i ≡ n) × (n < len))
told n len true t (Some i) e = (same_Some i n e, (Decides-ltb n len).0 (sym t))
told n len true t None e = absurd (none-some n e)
told n len false t (Some i) e = absurd (none-some i (sym e))
told n len false t None e = let h = sym t in grind (arith, nat_tests)

-- where the first slash stands
pub slash_told : (xs : List ℕ) (r : Option ℕ) → r ≡ position is_slash xs
    → MatchOption r (length xs ≤ position_or_len is_slash xs) (λ i. (i ≡ position_or_len is_slash xs) × (position_or_len is_slash xs < length xs))
slash_told xs r e = told (position_or_len is_slash xs) (length xs) (nat_lt (position_or_len is_slash xs) (length xs)) refl r e

-- a list with a slash, cut at the first
pub cut_at : (xs : List ℕ) (i : ℕ) → i ≡ position_or_len is_slash xs → i < length xs → slice_split is_slash xs ≡ take i xs ∷ slice_split is_slash (drop (i + 1) xs)
cut_at xs i e lt = rw e (slice_split_first is_slash xs 0 (rw e at lt))

-- a list with no slash is one part
pub not_cut : (xs : List ℕ) → length xs ≤ position_or_len is_slash xs → slice_split is_slash xs ≡ xs ∷ []
not_cut xs le = slice_split_none is_slash xs (λ k d lt. fails_before_first is_slash xs k d (omega (arith, le, lt)))

-- nothing stands behind a slash that isn't there
pub nothing_after : (xs : List ℕ) → length xs ≤ position_or_len is_slash xs → after_first is_slash xs ≡ []
nothing_after xs le = drop_all (position_or_len is_slash xs + 1) xs (omega (arith, le))

three_of : (host module_name : List ℕ) (parts : List (List ℕ)) → 0 < length parts → has_host_and_module (host ∷ module_name ∷ parts) ≡ (not (is_empty host) && not (is_empty module_name))
three_of host module_name [] lt = absurd (omega (arith, lt))
three_of host module_name (path ∷ more) lt = refl

-- a path stands behind the slash after the module
pub three_parts : (host module_name path : List ℕ) → has_host_and_module (host ∷ module_name ∷ slice_split is_slash path) ≡ (not (is_empty host) && not (is_empty module_name))
three_parts host module_name path = three_of host module_name (slice_split is_slash path) (omega (arith, length-slice_split is_slash path))

-- the octets at the front are those of the scheme, in any case
pub scheme_told : (scheme text : List ℕ) (k : ℕ) (r : Bool) → k ≡ min (length scheme) (length text)
    → (IsTrue r ↔ (map to_ascii_lowercase (take k text) ≡ map to_ascii_lowercase scheme)) → has_scheme scheme text ≡ r
scheme_told scheme text k r e t =
    let front : take k text ≡ take (length scheme) text = ap (λ n. take n text) e ∙ take_min (length scheme) text in
    same_from_decides (has_scheme scheme text) r (bytes_decides (map to_ascii_lowercase (take (length scheme) text)) (map to_ascii_lowercase scheme)) (rw front at t)

through : (long octets scheme : Bool) (rest : Option Error) → long ≡ false → octets ≡ true
    → (if long then Some TooLong else if not octets then Some BadCharacter else if not scheme then Some BadScheme else rest) ≡ (if not scheme then Some BadScheme else rest)
through true octets scheme rest e f = absurd (true≢false e)
through false true scheme rest e f = refl
through false false scheme rest e f = absurd (false≢true f)

past_two : (scheme text : List ℕ) (has_parts : List (List ℕ) → Bool) → length text ≤ 65535 → list_all is_uri_octet text ≡ true
    → uri_fault scheme has_parts text ≡ (if not (has_scheme scheme text) then Some BadScheme else parts_fault has_parts (parts_behind scheme text))
past_two scheme text has_parts short octets =
    let e : nat_lt 65535 (length text) ≡ false = grind (arith, nat_tests) in
    through (nat_lt 65535 (length text)) (list_all is_uri_octet text) (has_scheme scheme text) (parts_fault has_parts (parts_behind scheme text)) e octets

-- a text of URI octets with another scheme
pub other_scheme : (scheme text : List ℕ) (has_parts : List (List ℕ) → Bool) → length text ≤ 65535 → list_all is_uri_octet text ≡ true
    → has_scheme scheme text ≡ false → uri_fault scheme has_parts text ≡ Some BadScheme
other_scheme scheme text has_parts short octets other =
    past_two scheme text has_parts short octets ∙ ap (λ (b : Bool). if not b then Some BadScheme else parts_fault has_parts (parts_behind scheme text)) other

-- a text of URI octets with the scheme
pub same_scheme : (scheme text : List ℕ) (k : ℕ) (has_parts : List (List ℕ) → Bool) → length text ≤ 65535 → list_all is_uri_octet text ≡ true
    → has_scheme scheme text ≡ true → k ≡ min (length scheme) (length text)
    → uri_fault scheme has_parts text ≡ parts_fault has_parts (slice_split is_slash (take (length text - k) (drop k text)))
same_scheme scheme text k has_parts short octets same e =
    let rest : take (length text - k) (drop k text) ≡ drop (length scheme) text = rest_of k text ∙ ap (λ n. drop n text) e ∙ drop_min (length scheme) text in
    past_two scheme text has_parts short octets ∙ ap (λ (b : Bool). if not b then Some BadScheme else parts_fault has_parts (parts_behind scheme text)) same
    ∙ ap (λ (l : List ℕ). parts_fault has_parts (slice_split is_slash l)) (sym rest)

-- a host and a module, cut off one after the other
pub two_cuts : (rest host module_name : List ℕ) (first second : Option (Bor (List ℕ))) (behind : Bor (List ℕ)) (no_host no_module : Bool)
    → slice_split is_slash rest ≡ host ∷ option_map_or (λ r. slice_split is_slash r.now) first [] → first ≡ Some behind
    → slice_split is_slash behind.now ≡ module_name ∷ option_map_or (λ r. slice_split is_slash r.now) second [] → is_some second ≡ true
    → no_host ≡ is_empty host → no_module ≡ is_empty module_name → has_host_and_module (slice_split is_slash rest) ≡ (not no_host && not no_module)
two_cuts rest host module_name first None behind no_host no_module e f g h p q = absurd (false≢true h)
two_cuts rest host module_name first (Some path) behind no_host no_module e f g h p q = rw (e, f, g, p, q) (three_parts host module_name path.now)
