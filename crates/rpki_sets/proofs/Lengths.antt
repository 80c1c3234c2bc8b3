-- How long printed sets are, beside the texts that they were read of.
use Rattle.std.proofs.Common.{◌≡◌, ℕ, ◌+◌, ◌*◌, ◌/◌, ◌%◌, ◌^◌, ◌<◌, ◌≤◌, inl, inr, Bool, true, cond, eqb, ltb, None, Some, Option, List, [], ◌∷◌, ◌++◌, length, take, drop, reverse, flat_map, codes, arith, refl, sym, subst, ap, ◌∙◌, length-append, length-drop, length-take-le}
use Rattle.std.specs.Char.{digit_char}
use Rattle.std.specs.Fmt.{decimal}
use Rattle.std.specs.Int.{w128, to_be_bytes}
use Rattle.std.specs.List.{slice_split, onto_first, position_or_len}
use Rattle.std.specs.Net.Addr.{segments_of}
use Rattle.std.specs.Net.Grammar.{IsGroupsAfter, IsElided, IsColonHex}
use Rattle.std.specs.Net.Text.{dotted_text, leading_zero_digits, hex, groups_text, longest_zero_run, compressed_text, hex_groups_text}
use Rattle.std.proofs.Math.Nat.{suc-mul}
use Rattle.std.proofs.lemmas.Bool.{cond_both, ltb-true}
use Rattle.std.proofs.lemmas.Fmt.{length-decimal-le, decimal_nonempty}
use Rattle.std.proofs.lemmas.List.{length-reverse}
use Rattle.std.proofs.lemmas.List.Splits.{length-slice_split}
use Rattle.std.proofs.NetLemmas.Texts.{IsZeroRun-longest_zero_run}
use Rattle.rpki_common.specs.Chaining.{◌>>=◌}
use Rattle.rpki_sets.specs.declared.run.Run.{Run}
use Rattle.rpki_sets.specs.Runs.{IsSet, hull, add, union}
use Rattle.rpki_sets.specs.Texts.{skip_spaces, trimmed, cut, parts, read_all, decimal_below}
use Rattle.rpki_sets.specs.Prefixes.{prefix, prefix_length}
use Rattle.rpki_sets.specs.Kinds.{Kind, IsLawfulKind, run_from, range_of, range, prefix_or_range, item, spaced_item, runs_of, blocks_of, range_text, prefix_or_range_text, run_text, printed}
use Rattle.rpki_sets.specs.AsNumbers.{as_kind}
use Rattle.rpki_sets.specs.Ipv4Addresses.{ipv4_number_text, ipv4_kind}
use Rattle.rpki_sets.specs.Ipv6Addresses.{ipv6_number, ipv6_number_text, ipv6_kind}
use Rattle.rpki_sets.proofs.AsLaws.{as_lawful}
use Rattle.rpki_sets.proofs.BigEndian.{bytes_small}
use Rattle.rpki_sets.proofs.Cutting.{cut-some}
use Rattle.rpki_sets.proofs.Fitted.{head_fits, tail_set}
use Rattle.rpki_sets.proofs.Fitting.{IsFit, bind_some}
use Rattle.rpki_sets.proofs.Ipv4Laws.{ipv4_lawful}
use Rattle.rpki_sets.proofs.Ipv6Laws.{ipv6_lawful, ipv6_number-sound}
use Rattle.rpki_sets.proofs.PrefixLemmas.{prefix_length-sound}
use Rattle.rpki_sets.proofs.Printed.{as_set_read, ipv4_set_read, ipv6_set_read}
use Rattle.rpki_common.proofs.Truths.{none_some}

-- ---- a union has no more runs

length-add : (run : Run) (runs : List Run) → length (add run runs) ≤ length runs + 1
unfolding add
length-add run [] = omega arith
length-add run (next ∷ more) =
    let small = λ (l : List Run). length l ≤ length (next ∷ more) + 1 in
    let kept : small (run ∷ next ∷ more) = omega arith in
    let behind : small (next ∷ add run more) = let h = length-add run more in omega (arith, h) in
    let joined : small (add (hull run next) more) = let h = length-add (hull run next) more in omega (arith, h) in
    cond_both (ltb (run.last + 1) next.first) _ _ small (λ _. kept) (λ _. cond_both (ltb (next.last + 1) run.first) _ _ small (λ _. behind) (λ _. joined))

length-union : (runs : List Run) → length (union runs) ≤ length runs
unfolding union
length-union [] = omega arith
length-union (run ∷ more) = let a = length-add run (union more) in let b = length-union more in omega (arith, a, b)

-- ---- each item has some octets

length-skip_spaces : (text : List ℕ) → length (skip_spaces text) ≤ length text
unfolding skip_spaces
length-skip_spaces [] = omega arith
length-skip_spaces (octet ∷ more) =
    cond_both (eqb octet 32) (skip_spaces more) (octet ∷ more) (λ l. length l ≤ length (octet ∷ more)) (λ _. let h = length-skip_spaces more in omega (arith, h)) (λ _. omega arith)

length-trimmed : (text : List ℕ) → length (trimmed text) ≤ length text
unfolding trimmed
length-trimmed text =
    let a = length-skip_spaces text in
    let b = length-reverse (skip_spaces text) in
    let c = length-skip_spaces (reverse (skip_spaces text)) in
    let d = length-reverse (skip_spaces (reverse (skip_spaces text))) in
    omega (arith, a, b, c, d)

front_short : (mark : ℕ) (text a b : List ℕ) → cut mark text ≡ Some (a, b) → length a ≤ length text
front_short mark text a b e =
    let at = cut-some mark text a b e in
    let within = at.0 in
    let is = ap (λ (l : List ℕ). length l) at.1 in
    let whole = length-take-le (position_or_len (λ octet. eqb octet mark) text) text (omega arith) in
    omega (arith, is, whole, within)

-- the octets of the parts, with one mark behind each
total : List (List ℕ) → ℕ
total [] = 0
total (text ∷ more) = length text + 1 + total more

total-onto_first : (c : ℕ) (list : List (List ℕ)) → 0 < length list → total (onto_first c list) ≡ total list + 1
unfolding total
total-onto_first c [] h = absurd (omega arith)
total-onto_first c (text ∷ more) h = omega arith

total-slice_split : (p : ℕ → Bool) (text : List ℕ) → total (slice_split p text) ≡ length text + 1
unfolding total
total-slice_split p [] = omega arith
total-slice_split p (c ∷ text) =
    let h = total-slice_split p text in
    let n = length-slice_split p text in
    let o = total-onto_first c (slice_split p text) (omega (arith, n)) in
    cond_both (p c) ([] ∷ slice_split p text) (onto_first c (slice_split p text)) (λ l. total l ≡ length (c ∷ text) + 1) (λ _. omega (arith, h)) (λ _. omega (arith, h, o))

total-parts : (text : List ℕ) → total (parts text) ≤ length text + 1
unfolding parts total
total-parts text =
    let h = total-slice_split (λ octet. eqb octet 44) text in
    cond_both (eqb (length (trimmed text)) 0) [] (slice_split (λ octet. eqb octet 44) text) (λ l. total l ≤ length text + 1) (λ _. omega arith) (λ _. omega (arith, h))

module _ (kind : Kind) (least : ℕ) (long : (text : List ℕ) (n : ℕ) → kind.number text ≡ Some n → least ≤ length text) where
  range_of-long : (text : List ℕ) (cut_in : Option (List ℕ × List ℕ)) (run : Run) → cut 45 text ≡ cut_in → range_of kind text cut_in ≡ Some run → least ≤ length text
  range_of-long text None run is e = bind_some (kind.number text) (λ n. run_from n n) run e (λ n h g. long text n h)
  range_of-long text (Some ends) run is e =
      bind_some (kind.number ends.0) (λ first. kind.number ends.1 >>= λ last. run_from first last) run e
      (λ first h g. let a = long ends.0 first h in let b = front_short 45 text ends.0 ends.1 is in omega (arith, a, b))

  range-long : (text : List ℕ) (run : Run) → range kind text ≡ Some run → least ≤ length text
  unfolding range
  range-long text run e = range_of-long text (cut 45 text) run refl e

  prefix-long : (text : List ℕ) (cut_in : Option (List ℕ × List ℕ)) (run : Run) → cut 47 text ≡ cut_in → prefix_or_range kind text cut_in ≡ Some run → least ≤ length text
  prefix-long text None run is e = range-long text run e
  prefix-long text (Some ends) run is e =
      bind_some (kind.number ends.0) (λ address. decimal_below (kind.width + 1) ends.1 >>= λ len. Some (prefix kind.width address len)) run e
      (λ address h g. let a = long ends.0 address h in let b = front_short 47 text ends.0 ends.1 is in omega (arith, a, b))

  item-long : (text : List ℕ) (run : Run) → item kind text ≡ Some run → least ≤ length text
  unfolding item
  item-long text run =
      cond_both kind.has_prefixes (prefix_or_range kind text (cut 47 text)) (range kind text) (λ o. o ≡ Some run → least ≤ length text)
      (λ p e. prefix-long text (cut 47 text) run refl e)
      (λ p e. range-long text run e)

  items-long : (texts : List (List ℕ)) (runs : List Run) → read_all (spaced_item kind) texts ≡ Some runs → length runs * (least + 1) ≤ total texts
  unfolding read_all total
  items-long [] runs e = let is : [] ≡ runs = cc in rw (← is) (omega arith)
  items-long (text ∷ more) runs e =
      bind_some (spaced_item kind text) (λ b. read_all (spaced_item kind) more >>= λ found. Some (b ∷ found)) runs e
      (λ run h g. bind_some (read_all (spaced_item kind) more) (λ found. Some (run ∷ found)) runs g
      (λ found k f.
      let is : run ∷ found ≡ runs = cc in
      let one = item-long (trimmed text) run h in
      let short = length-trimmed text in
      let rest = items-long more found k in
      let times = suc-mul (length found) (least + 1) in
      rw (← is) (omega (arith, one, short, rest, times))))

  runs-long : (text : List ℕ) (runs : List Run) → runs_of kind text ≡ Some runs → length runs * (least + 1) ≤ length text + 1
  unfolding runs_of
  runs-long text runs e = let a = items-long (parts text) runs e in let b = total-parts text in omega (arith, a, b)

-- ---- each run is printed in so many octets

module _ (kind : Kind) (bounded : kind.width ≤ 128) (most : ℕ) (some : 3 ≤ most) (short : (n : ℕ) → n < 2 ^ kind.width → length (kind.number_text n) ≤ most) where
  module _ (run : Run) (fit : IsFit kind.width run) where
    first_length : length (kind.number_text run.first) ≤ most
    first_length = let up = fit.ordered in let top = fit.within in short run.first (omega arith)

    range_length : length (range_text kind run) ≤ 2 * most + 1
    range_length =
        let a = length-append (kind.number_text run.first) (45 ∷ kind.number_text run.last) in
        let f = first_length in
        let l = short run.last fit.within in
        omega (arith, a, f, l)

    length_by_length : (o : Option ℕ) → prefix_length kind.width run ≡ o → length (prefix_or_range_text kind run o) ≤ 2 * most + 1
    length_by_length None e = range_length
    length_by_length (Some len) e =
        let sound = prefix_length-sound kind.width run len e in
        let a = length-append (kind.number_text run.first) (47 ∷ decimal len) in
        let f = first_length in
        let d = length-decimal-le 3 len (omega arith) (omega arith) (omega arith) in
        omega (arith, a, f, d)

    run_length : length (run_text kind run) ≤ 2 * most + 1
    unfolding run_text
    run_length =
        cond_both kind.has_prefixes (prefix_or_range_text kind run (prefix_length kind.width run)) (cond (eqb run.first run.last) (kind.number_text run.first) (range_text kind run))
        (λ l. length l ≤ 2 * most + 1)
        (λ p. length_by_length (prefix_length kind.width run) refl)
        (λ p. cond_both (eqb run.first run.last) (kind.number_text run.first) (range_text kind run) (λ l. length l ≤ 2 * most + 1) (λ e. let f = first_length in omega (arith, f)) (λ e. range_length))

  text_length : (runs : List Run) → IsSet kind.width runs → length (printed kind runs) ≤ length runs * (2 * most + 2)
  unfolding printed
  text_length [] set = omega arith
  text_length (run ∷ []) set =
      let a = length-append (run_text kind run) [] in
      let r = run_length run (head_fits kind.width run [] set) in
      let times = suc-mul 0 (2 * most + 2) in
      omega (arith, a, r, times)
  text_length (run ∷ next ∷ rest) set =
      let a = length-append (run_text kind run) (44 ∷ printed kind (next ∷ rest)) in
      let r = run_length run (head_fits kind.width run (next ∷ rest) set) in
      let more = text_length (next ∷ rest) (tail_set kind.width run (next ∷ rest) set) in
      let times = suc-mul (length (next ∷ rest)) (2 * most + 2) in
      omega (arith, a, r, more, times)

-- ---- the numbers of the three kinds

not_empty : (kind : Kind) → IsLawfulKind kind → (text : List ℕ) (n : ℕ) → kind.number text ≡ Some n → 1 ≤ length text
not_empty kind lawful [] n e = absurd (none_some n (sym lawful.empty ∙ e))
not_empty kind lawful (c ∷ text) n e = omega arith

as_length : (n : ℕ) → n < 2 ^ 32 → length (decimal n) ≤ 10
as_length n small = length-decimal-le 10 n (omega arith) (omega arith) (omega arith)

dotted_length : (a b c d : ℕ) → a < 256 → b < 256 → c < 256 → d < 256 → (7 ≤ length (dotted_text a b c d)) × (length (dotted_text a b c d) ≤ 15)
dotted_length a b c d pa pb pc pd =
    let s : (n : ℕ) → n < 256 → (1 ≤ length (decimal n)) × (length (decimal n) ≤ 3) = λ n h. (decimal_nonempty n (omega arith), length-decimal-le 3 n (omega arith) (omega arith) (omega arith)) in
    let sa = s a pa in
    let sb = s b pb in
    let sc = s c pc in
    let sd = s d pd in
    let e1 = length-append (((((decimal a ++ codes ".") ++ decimal b) ++ codes ".") ++ decimal c) ++ codes ".") (decimal d) in
    let e2 = length-append ((((decimal a ++ codes ".") ++ decimal b) ++ codes ".") ++ decimal c) (codes ".") in
    let e3 = length-append (((decimal a ++ codes ".") ++ decimal b) ++ codes ".") (decimal c) in
    let e4 = length-append ((decimal a ++ codes ".") ++ decimal b) (codes ".") in
    let e5 = length-append (decimal a ++ codes ".") (decimal b) in
    let e6 = length-append (decimal a) (codes ".") in
    (omega (arith, sa, sb, sc, sd, e1, e2, e3, e4, e5, e6), omega (arith, sa, sb, sc, sd, e1, e2, e3, e4, e5, e6))

ipv4_length : (n : ℕ) → n < 2 ^ 32 → length (ipv4_number_text n) ≤ 15
unfolding ipv4_number_text
ipv4_length n small = (dotted_length _ _ _ _ (bytes_small 4 n 0) (bytes_small 4 n 1) (bytes_small 4 n 2) (bytes_small 4 n 3)).1

hex_length : (n : ℕ) → length (hex n) ≤ 4
unfolding hex
hex_length n =
    let e = length-drop (leading_zero_digits n) (digit_char (n / 0x1000) ∷ digit_char (n / 0x100 % 16) ∷ digit_char (n / 0x10 % 16) ∷ digit_char (n % 16) ∷ []) in
    omega (arith, e)

more_length : (xs : List ℕ) → length (flat_map (λ t. 58 ∷ hex t) xs) ≤ 5 * length xs
more_length [] = omega arith
more_length (x ∷ xs) =
    let a = length-append (58 ∷ hex x) (flat_map (λ t. 58 ∷ hex t) xs) in
    let h = hex_length x in
    let m = more_length xs in
    omega (arith, a, h, m)

groups_length : (xs : List ℕ) → length (groups_text xs) ≤ 5 * length xs
groups_length [] = omega arith
groups_length (x ∷ xs) =
    let a = length-append (hex x) (flat_map (λ t. 58 ∷ hex t) xs) in
    let h = hex_length x in
    let m = more_length xs in
    omega (arith, a, h, m)

whole_length : (xs : List ℕ) → length xs ≡ 8 → length (groups_text xs) ≤ 39
whole_length [] e = omega arith
whole_length (x ∷ xs) e =
    let a = length-append (hex x) (flat_map (λ t. 58 ∷ hex t) xs) in
    let h = hex_length x in
    let m = more_length xs in
    omega (arith, a, h, m)

compressed_length : (xs : List ℕ) (run : ℕ × ℕ) → length xs ≡ 8 → run.0 + run.1 ≤ 8 → length (compressed_text xs run) ≤ 39
compressed_length xs run eight within =
    cond_both (ltb 1 run.1) ((groups_text (take run.0 xs) ++ codes "::") ++ groups_text (drop (run.0 + run.1) xs)) (groups_text xs) (λ l. length l ≤ 39)
    (λ t.
    let two = ltb-true 1 run.1 t in
    let a = length-append (groups_text (take run.0 xs) ++ codes "::") (groups_text (drop (run.0 + run.1) xs)) in
    let b = length-append (groups_text (take run.0 xs)) (codes "::") in
    let c = groups_length (take run.0 xs) in
    let d = groups_length (drop (run.0 + run.1) xs) in
    let front = length-take-le run.0 xs (omega arith) in
    let back = length-drop (run.0 + run.1) xs in
    omega (arith, two, a, b, c, d, front, back))
    (λ _. whole_length xs eight)

groups_text_length : (xs : List ℕ) → length xs ≡ 8 → length (hex_groups_text xs) ≤ 39
unfolding hex_groups_text
groups_text_length xs eight =
    let run = (IsZeroRun-longest_zero_run xs).0 in
    compressed_length xs (longest_zero_run xs) eight (omega (arith, run))

ipv6_length : (n : ℕ) → n < 2 ^ 128 → length (ipv6_number_text n) ≤ 39
unfolding ipv6_number_text
ipv6_length n small = groups_text_length (segments_of (to_be_bytes w128 n)) refl

elided_long : (text segments : List ℕ) → IsElided text segments → 2 ≤ length text
elided_long text segments h =
    let is = ap (λ (l : List ℕ). length l) h.spelled in
    let a = length-append (h.head_text ++ codes "::") h.tail_text in
    let b = length-append h.head_text (codes "::") in
    omega (arith, is, a, b)

-- groups behind a colon
behind_long : (text : List ℕ) (s : ℕ) (segments : List ℕ) → IsGroupsAfter true (codes ":") text (s ∷ segments) → 1 ≤ length text
behind_long text s segments (inl h) = let is = ap (λ (l : List ℕ). length l) h.2 in omega (arith, is)
behind_long text s segments (inr h) = let is = ap (λ (l : List ℕ). length l) h.3 in omega (arith, is)

groups_long : (text : List ℕ) (s t : ℕ) (segments : List ℕ) → IsGroupsAfter true [] text (s ∷ t ∷ segments) → 2 ≤ length text
groups_long text s t segments (inl h) =
    let is = ap (λ (l : List ℕ). length l) h.2 in
    let a = length-append h.0 h.1 in
    let one = h.3.0.0.0 in
    let more = behind_long h.1 t segments h.4 in
    omega (arith, is, a, one, more)
groups_long text s t segments (inr h) =
    let is = ap (λ (l : List ℕ). length l) h.3 in
    let d = h.4 in
    let spelled = ap (λ (l : List ℕ). length l) d.spelled in
    let fit = d.fit in
    let long = (dotted_length d.a d.b d.c d.d fit.0 fit.1 fit.2 fit.3).0 in
    omega (arith, is, spelled, long)

colon_hex_long : (text segments : List ℕ) → IsColonHex text segments → 2 ≤ length text
colon_hex_long text [] (inl h) = let e = h.1 in absurd (omega arith)
colon_hex_long text (s ∷ []) (inl h) = let e = h.1 in absurd (omega arith)
colon_hex_long text (s ∷ t ∷ segments) (inl h) = groups_long text s t segments h.0
colon_hex_long text segments (inr h) = elided_long text segments h

ipv6_long : (text : List ℕ) (n : ℕ) → ipv6_number text ≡ Some n → 2 ≤ length text
ipv6_long text n e = let found = ipv6_number-sound text n e in colon_hex_long text found.0 found.1

-- ---- printed sets

counts : (kind : Kind) (text : List ℕ) (runs : List Run) → blocks_of kind text ≡ Some runs → (found : List Run) × (runs_of kind text ≡ Some found) × (length runs ≤ length found)
unfolding blocks_of
counts kind text runs e =
    bind_some (runs_of kind text) (λ found. Some (union found)) runs e
    (λ found h g.
    let same : union found ≡ runs = cc in
    let fewer = length-union found in
    (found, h, subst (λ (l : List Run). length l ≤ length found) same fewer))

pub as_set_short : (text : List ℕ) (runs : List Run) → blocks_of as_kind text ≡ Some runs → length (printed as_kind runs) ≤ 40 * length text
as_set_short text runs e =
    let c = counts as_kind text runs e in
    let fewer = c.2 in
    let items = runs-long as_kind 1 (not_empty as_kind as_lawful) text c.0 c.1 in
    let print = text_length as_kind as_lawful.bounded 10 (omega arith) as_length runs (as_set_read text runs e) in
    omega (arith, fewer, items, print)

pub ipv4_set_short : (text : List ℕ) (runs : List Run) → blocks_of ipv4_kind text ≡ Some runs → length (printed ipv4_kind runs) ≤ 40 * length text
ipv4_set_short text runs e =
    let c = counts ipv4_kind text runs e in
    let fewer = c.2 in
    let items = runs-long ipv4_kind 1 (not_empty ipv4_kind ipv4_lawful) text c.0 c.1 in
    let print = text_length ipv4_kind ipv4_lawful.bounded 15 (omega arith) ipv4_length runs (ipv4_set_read text runs e) in
    omega (arith, fewer, items, print)

pub ipv6_set_short : (text : List ℕ) (runs : List Run) → blocks_of ipv6_kind text ≡ Some runs → length (printed ipv6_kind runs) ≤ 40 * length text
ipv6_set_short text runs e =
    let c = counts ipv6_kind text runs e in
    let fewer = c.2 in
    let items = runs-long ipv6_kind 2 ipv6_long text c.0 c.1 in
    let print = text_length ipv6_kind ipv6_lawful.bounded 39 (omega arith) ipv6_length runs (ipv6_set_read text runs e) in
    omega (arith, fewer, items, print)
