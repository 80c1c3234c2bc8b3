-- The lines of a state's text.
use Rattle.std.proofs.Common.{◌≡◌, ◌≢◌, ◌⊎◌, ◌-◌, ◌<◌, ℕ, ℤ, suc, true, false, nat_eq, bytes_eq, is_some, if◌then◌else◌, Option, None, Some, List, [], ◌∷◌, ◌++◌, All, length, slice_index, map, inl, inr, refl, sym, ap, subst, ◌∙◌, arith, append_assoc, append-nil, length-append, Result, Ok, Err, IsErrOf, IsErrAnd}
use Rattle.std.specs.List.{onto_first, AllByRecursion}
use Rattle.std.proofs.lemmas.Bool.{eqb-true, ne_eqb}
use Rattle.std.proofs.lemmas.Slice.Eq.{bytes_eq-Decides}
use Rattle.std.proofs.lemmas.List.{map-append}
use Rattle.std.proofs.lemmas.List.Elements.{All-nil, All-cons}
use Rattle.std.proofs.lemmas.List.Splits.{length-slice_split}
use Rattle.rpki_base.specs.PublicKey.{KeyFields}
use Rattle.rpki_ca.specs.Lines.{lines_of, pieces_of, without_empty_end, answer_lines, words_of}
use Rattle.rpki_ca.proofs.Cutting.{IsOneLine, written_read}
use Rattle.rpki_replay.specs.declared.peers.Peer.{Peer}
use Rattle.rpki_replay.specs.State.{IsPeer, IsState, AreDistinctPeers, last_of}
use Rattle.rpki_ca.specs.Keys.{same_key}
use Rattle.rpki_replay.specs.StateText.{IsStateText, ends_line, peer_line}
use Rattle.rpki_replay.specs.Messages.{OpensWithState, dash}
use Rattle.rpki_ca.proofs.Keys.{same_key-sym}
use Rattle.rpki_replay.proofs.Standing.{distinct_push, no_time}
use Rattle.rpki_replay.proofs.Texts.{line_words, one_line, one_peer, key_word, time_word}

-- ---- octets that end with a line feed are the lines that they are cut into

piece_stays : (piece : List ℕ) (pieces : List (List ℕ)) → 0 < length pieces → without_empty_end (piece ∷ pieces) ≡ piece ∷ without_empty_end pieces
piece_stays [] [] some = absurd (omega arith)
piece_stays [] (next ∷ pieces) some = refl
piece_stays (x ∷ xs) pieces some = refl

onto : (x : ℕ) (pieces : List (List ℕ)) → 0 < length (answer_lines (without_empty_end pieces)) → answer_lines (without_empty_end (onto_first x pieces)) ≡ x ∷ answer_lines (without_empty_end pieces)
onto x [] some = absurd (omega arith)
onto x ([] ∷ []) some = absurd (omega arith)
onto x ([] ∷ next ∷ pieces) some = refl
onto x ((a ∷ piece) ∷ pieces) some = refl

one_more_octet : (x : ℕ) (xs : List ℕ) → 0 < length xs → answer_lines (lines_of xs) ≡ xs → answer_lines (lines_of (x ∷ xs)) ≡ x ∷ xs
one_more_octet x xs some e =
    elim (nat_eq x 10) as (λ t. nat_eq x 10 ≡ t → answer_lines (without_empty_end (if t then [] ∷ pieces_of 10 xs else onto_first x (pieces_of 10 xs))) ≡ x ∷ xs) [
      | true ↦ λ feed.
          let is : x ≡ 10 = eqb-true x 10 feed in
          let parts : 0 < length (pieces_of 10 xs) = omega (arith, length-slice_split (λ octet. nat_eq octet 10) xs) in
          ap answer_lines (piece_stays [] (pieces_of 10 xs) parts) ∙ ap (λ (l : List ℕ). 10 ∷ l) e ∙ ap (λ (n : ℕ). n ∷ xs) (sym is)
      | false ↦ λ other.
          let long : 0 < length (answer_lines (lines_of xs)) = omega (arith, ap length e) in
          onto x (pieces_of 10 xs) long ∙ ap (λ (l : List ℕ). x ∷ l) e
    ] refl

last_feed : (x : ℕ) → nat_eq x 10 ≡ true → answer_lines (lines_of (x ∷ [])) ≡ x ∷ []
last_feed x feed = let is : x ≡ 10 = eqb-true x 10 feed in rw is refl

not_nil : (n : ℕ) → nat_eq (suc n) 0 ≡ false
not_nil n = ne_eqb (suc n) 0 (λ same. omega arith)

tail_index : (n : ℕ) → suc (suc n) - 1 ≡ suc (suc n - 1)
tail_index n = omega arith

ends_some : (x : ℕ) (xs : List ℕ) → ends_line (x ∷ xs) ≡ nat_eq (slice_index (x ∷ xs) (length (x ∷ xs) - 1)) 10
ends_some x xs = rw (not_nil (length xs)) refl

ends_tail : (x y : ℕ) (more : List ℕ) → ends_line (x ∷ y ∷ more) ≡ ends_line (y ∷ more)
ends_tail x y more =
    ends_some x (y ∷ more) ∙ ap (λ (n : ℕ). nat_eq (slice_index (x ∷ y ∷ more) n) 10) (tail_index (length more)) ∙ sym (ends_some y more)

pub read_written : (octets : List ℕ) → ends_line octets ≡ true → answer_lines (lines_of octets) ≡ octets
read_written [] ends = refl
read_written (x ∷ []) ends = last_feed x ends
read_written (x ∷ y ∷ more) ends = one_more_octet x (y ∷ more) (omega arith) (read_written (y ∷ more) (sym (ends_tail x y more) ∙ ends))

-- what is written in lines ends with a line feed
ends_behind : (xs ys : List ℕ) → 0 < length ys → ends_line ys ≡ true → ends_line (xs ++ ys) ≡ true
ends_behind [] ys some ends = ends
ends_behind (x ∷ []) [] some ends = absurd (omega arith)
ends_behind (x ∷ []) (y ∷ ys) some ends = ends_tail x y ys ∙ ends
ends_behind (x ∷ z ∷ xs) ys some ends = ends_tail x z (xs ++ ys) ∙ ends_behind (z ∷ xs) ys some ends

pub ends_written : (lines : List (List ℕ)) → ends_line (answer_lines lines) ≡ true
ends_written [] = refl
ends_written (line ∷ []) = ap ends_line (append-nil (line ++ 10 ∷ [])) ∙ ends_behind line (10 ∷ []) (omega arith) refl
ends_written (line ∷ next ∷ lines) = ends_behind (line ++ 10 ∷ []) (answer_lines (next ∷ lines)) (omega (arith, length-append (next ++ 10 ∷ []) (answer_lines lines), length-append next (10 ∷ []))) (ends_written (next ∷ lines))

-- ---- a state's lines are read as they were written

pub each_one_line : (peers : List Peer) → AllByRecursion IsPeer peers → All IsOneLine (map peer_line peers)
each_one_line [] each = All-nil IsOneLine
each_one_line (peer ∷ more) each = All-cons IsOneLine (peer_line peer) (map peer_line more) (one_line peer each.0) (each_one_line more each.1)

pub state_lines : (text : List ℕ) (peers : List Peer) → IsStateText text peers → lines_of text ≡ map peer_line peers
state_lines text peers is = ap lines_of is.written ∙ written_read (map peer_line peers) (each_one_line peers is.state.each)

-- the line with a dash is no peer's
pub dash_other : (peer : Peer) → IsPeer peer → peer_line peer ≡ dash → ⊥
dash_other peer is same =
    let words : key_word peer ∷ time_word peer ∷ [] ≡ dash ∷ [] = sym (line_words peer is) ∙ ap words_of same in
    let lengths : length (key_word peer ∷ time_word peer ∷ []) ≡ length (dash ∷ []) = ap (λ (l : List (List ℕ)). length l) words in
    omega (arith, lengths)

-- ---- which peers lines are of

-- The lines of peers and then a line are the lines of other peers and then a tail: the line is that of the next of these, or the tail
-- begins with the line or with the line of a peer.
pub record IsNext (guard peers : List Peer) (line : List ℕ) : Type 0 where
  pub peer : Peer
  pub behind : List Peer
  pub is : IsPeer peer
  pub written : line ≡ peer_line peer
  pub peers_are : peers ≡ guard ++ peer ∷ behind

pub record BeginsTail (line : List ℕ) (rest tail : List (List ℕ)) : Type 0 where
  pub is : tail ≡ line ∷ rest

pub record BeginsWithPeer (tail : List (List ℕ)) : Type 0 where
  pub peer : Peer
  pub more : List (List ℕ)
  pub is_peer : IsPeer peer
  pub is : tail ≡ peer_line peer ∷ more

heads : {X : Type 0} (x y : X) (xs ys : List X) → x ∷ xs ≡ y ∷ ys → (x ≡ y) × (xs ≡ ys)
heads x y xs ys e = (let h : x ≡ y = cc in h, let t : xs ≡ ys = cc in t)

pub which_line : (guard peers : List Peer) (line : List ℕ) (rest tail : List (List ℕ)) → AllByRecursion IsPeer guard → AllByRecursion IsPeer peers
    → map peer_line guard ++ line ∷ rest ≡ map peer_line peers ++ tail → IsNext guard peers line ⊎ (BeginsTail line rest tail ⊎ BeginsWithPeer tail)
which_line [] [] line rest tail g p e = inr (inl (record { is = sym e }))
which_line [] (peer ∷ behind) line rest tail g p e = inl (record { peer = peer; behind = behind; is = p.0; written = (heads line (peer_line peer) rest (map peer_line behind ++ tail) e).0; peers_are = refl })
which_line (held ∷ guard) [] line rest tail g p e = inr (inr (record { peer = held; more = map peer_line guard ++ line ∷ rest; is_peer = g.0; is = sym e }))
which_line (held ∷ guard) (peer ∷ peers) line rest tail g p e =
    let h = heads (peer_line held) (peer_line peer) (map peer_line guard ++ line ∷ rest) (map peer_line peers ++ tail) e in
    let same : held ≡ peer = one_peer held peer g.0 p.0 h.0 in
    elim (which_line guard peers line rest tail g.1 p.1 h.1) [
      | inl next ↦ inl (record { peer = next.peer; behind = next.behind; is = next.is; written = next.written; peers_are = λ i. sym same i ∷ next.peers_are i })
      | inr other ↦ inr other
    ]

-- ---- keys that are held before

apart_key : (peers : List Peer) (peer : Peer) (behind : List Peer) (key : KeyFields) → last_of (peers ++ peer ∷ behind) key ≡ None → same_key key peer.key ≡ false
apart_key [] peer behind key e =
    elim (same_key key peer.key) as (λ t. (if t then Some peer.last else last_of behind key) ≡ None → t ≡ false) [
      | true ↦ λ here. absurd (no_time peer.last here)
      | false ↦ λ other. refl
    ] e
apart_key (held ∷ peers) peer behind key e =
    elim (same_key key held.key) as (λ t. (if t then Some held.last else last_of (peers ++ peer ∷ behind) key) ≡ None → same_key key peer.key ≡ false) [
      | true ↦ λ here. absurd (no_time held.last here)
      | false ↦ λ other. apart_key peers peer behind key other
    ] e

pub apart_before : (guard : List Peer) (peer : Peer) (behind : List Peer) → AreDistinctPeers (guard ++ peer ∷ behind) → last_of guard peer.key ≡ None
apart_before [] peer behind h = refl
apart_before (held ∷ guard) peer behind h =
    let other : same_key peer.key held.key ≡ false = same_key-sym peer.key held.key ∙ apart_key guard peer behind held.key h.0 in
    rw other (apart_before guard peer behind h.1)

-- ---- one more line

pub each_more : (peers : List Peer) (peer : Peer) → AllByRecursion IsPeer peers → IsPeer peer → AllByRecursion IsPeer (peers ++ peer ∷ [])
each_more [] peer each is = (is, tt)
each_more (held ∷ peers) peer each is = (each.0, each_more peers peer each.1 is)

pub state_more : (old new : List Peer) (peer : Peer) → IsState old → IsPeer peer → last_of old peer.key ≡ None → new ≡ old ++ peer ∷ [] → IsState new
state_more old new peer state is none e = subst IsState (sym e) (record { distinct = distinct_push old peer state.distinct none; each = each_more old peer state.each is })

pub lines_more : (old new : List Peer) (peer : Peer) (line : List ℕ) (before rest all : List (List ℕ)) → map peer_line old ++ before ≡ all → before ≡ line ∷ rest → line ≡ peer_line peer → new ≡ old ++ peer ∷ []
    → map peer_line new ++ rest ≡ all
lines_more old new peer line before rest all h first is e =
    ap (λ (l : List Peer). map peer_line l ++ rest) e
    ∙ ap (λ (l : List (List ℕ)). l ++ rest) (map-append peer_line old (peer ∷ []))
    ∙ append_assoc (map peer_line old) (peer_line peer ∷ []) rest
    ∙ ap (λ (l : List ℕ). map peer_line old ++ l ∷ rest) (sym is)
    ∙ ap (λ (l : List (List ℕ)). map peer_line old ++ l) (sym first)
    ∙ h

-- ---- one line of a state

pub none_held : (o : Option ℤ) → false ≡ is_some o → o ≡ None
none_held None e = refl
none_held (Some z) e = cc

pub still_held : (peers : List Peer) (one other : Peer) (line : List ℕ) (o : Option ℤ) → IsPeer one → line ≡ peer_line one → IsPeer other → line ≡ peer_line other → o ≡ last_of peers one.key → true ≡ is_some o → last_of peers other.key ≡ None → ⊥
still_held peers one other line o is same other_is other_same held some none =
    let one_is : one ≡ other = one_peer one other is other_is (sym same ∙ other_same) in
    let absent : o ≡ None = held ∙ ap (λ (p : Peer). last_of peers p.key) one_is ∙ none in
    not_both o absent some
  where
    not_both : (o : Option ℤ) → o ≡ None → true ≡ is_some o → ⊥
    not_both None e s = cc
    not_both (Some z) e s = no_time z e

-- ---- the whole text

pub no_text : (text : List ℕ) (peers : List Peer) → false ≡ ends_line text → IsStateText text peers → ⊥
no_text text peers ends is = let e : ends_line text ≡ true = ap ends_line is.written ∙ ends_written (map peer_line peers) in cc

pub not_next : (guard : List Peer) (line : List ℕ) (before rest : List (List ℕ)) (text : List ℕ) (peers : List Peer) → IsState guard → map peer_line guard ++ before ≡ lines_of text → before ≡ line ∷ rest
    → ((peer : Peer) → IsPeer peer → line ≡ peer_line peer → last_of guard peer.key ≢ None) → IsStateText text peers → ⊥
not_next guard line before rest text peers state h first bad is =
    let e : map peer_line guard ++ line ∷ rest ≡ map peer_line peers ++ [] =
    ap (λ (l : List (List ℕ)). map peer_line guard ++ l) (sym first) ∙ h ∙ state_lines text peers is ∙ sym (append-nil (map peer_line peers)) in
    elim (which_line guard peers line rest [] state.each is.state.each e) [
      | inl next ↦ bad next.peer next.is next.written (apart_before guard next.peer next.behind (subst AreDistinctPeers next.peers_are is.state.distinct))
      | inr (inl tail) ↦ nil_cons line rest tail.is
      | inr (inr tail) ↦ nil_cons (peer_line tail.peer) tail.more tail.is
    ]
  where
    nil_cons : (x : List ℕ) (xs : List (List ℕ)) → [] ≡ x ∷ xs → ⊥
    nil_cons x xs e = cc

pub all_read : (guard : List Peer) (left : List (List ℕ)) (text : List ℕ) → IsState guard → map peer_line guard ++ left ≡ lines_of text → left ≡ [] → true ≡ ends_line text → IsStateText text guard
all_read guard left text state h none ends = record {
  state = state;
  written = sym (ap answer_lines (sym (append-nil (map peer_line guard)) ∙ ap (λ (l : List (List ℕ)). map peer_line guard ++ l) (sym none) ∙ h) ∙ read_written text (sym ends));
}

-- an error that is handed on is the one that was met
pub handed_on : {T E : Type 0} (r : Result T E) (e wanted : E) → IsErrOf r wanted → IsErrAnd r (λ given. given ≡ e) → e ≡ wanted
handed_on (Ok x) e wanted is same = absurd same
handed_on (Err given) e wanted is same = let g : given ≡ wanted = cc in sym same ∙ g

-- ---- a state in front of a line with a dash

no_dash_among : (guard peers : List Peer) (behind : List (List ℕ)) → AllByRecursion IsPeer guard → map peer_line guard ≡ map peer_line peers ++ dash ∷ behind → ⊥
no_dash_among [] [] behind each e = cc
no_dash_among [] (peer ∷ peers) behind each e = cc
no_dash_among (held ∷ guard) [] behind each e = dash_other held each.0 (heads (peer_line held) dash (map peer_line guard) behind e).0
no_dash_among (held ∷ guard) (peer ∷ peers) behind each e = no_dash_among guard peers behind each.1 (heads (peer_line held) (peer_line peer) (map peer_line guard) (map peer_line peers ++ dash ∷ behind) e).1

pub no_dash_left : (guard : List Peer) (left all : List (List ℕ)) (peers : List Peer) (behind : List (List ℕ)) → IsState guard → map peer_line guard ++ left ≡ all → left ≡ [] → all ≡ map peer_line peers ++ dash ∷ behind → ⊥
no_dash_left guard left all peers behind state h none e =
    no_dash_among guard peers behind state.each (sym (append-nil (map peer_line guard)) ∙ ap (λ (l : List (List ℕ)). map peer_line guard ++ l) (sym none) ∙ h ∙ e)

pub not_before_dash : (guard : List Peer) (line written : List ℕ) (before rest all : List (List ℕ)) (peers : List Peer) (behind : List (List ℕ)) → IsState guard → map peer_line guard ++ before ≡ all → before ≡ line ∷ rest
    → false ≡ bytes_eq line written → written ≡ dash → ((peer : Peer) → IsPeer peer → line ≡ peer_line peer → last_of guard peer.key ≢ None) → IsState peers → all ≡ map peer_line peers ++ dash ∷ behind → ⊥
not_before_dash guard line written before rest all peers behind state h first other is bad is_state e =
    elim (which_line guard peers line rest (dash ∷ behind) state.each is_state.each (ap (λ (l : List (List ℕ)). map peer_line guard ++ l) (sym first) ∙ h ∙ e)) [
      | inl next ↦ bad next.peer next.is next.written (apart_before guard next.peer next.behind (subst AreDistinctPeers next.peers_are is_state.distinct))
      | inr (inl tail) ↦ not_dash line written other is (sym (heads dash line behind rest tail.is).0)
      | inr (inr tail) ↦ dash_other tail.peer tail.is_peer (sym (heads dash (peer_line tail.peer) behind tail.more tail.is).0)
    ]
  where
    not_dash : (line written : List ℕ) → false ≡ bytes_eq line written → written ≡ dash → line ≡ dash → ⊥
    not_dash line written other is same = let e : bytes_eq line written ≡ true = (bytes_eq-Decides line written).1 (same ∙ sym is) in cc

-- two states in front of a line with a dash
same_opening : (one other : List Peer) (behind more : List (List ℕ)) → AllByRecursion IsPeer one → AllByRecursion IsPeer other → map peer_line one ++ dash ∷ behind ≡ map peer_line other ++ dash ∷ more → (one ≡ other) × (behind ≡ more)
same_opening [] [] behind more a b e = (refl, (heads dash dash behind more e).1)
same_opening [] (peer ∷ other) behind more a b e = absurd (dash_other peer b.0 (sym (heads dash (peer_line peer) behind (map peer_line other ++ dash ∷ more) e).0))
same_opening (peer ∷ one) [] behind more a b e = absurd (dash_other peer a.0 (heads (peer_line peer) dash (map peer_line one ++ dash ∷ behind) more e).0)
same_opening (p ∷ one) (q ∷ other) behind more a b e =
    let h = heads (peer_line p) (peer_line q) (map peer_line one ++ dash ∷ behind) (map peer_line other ++ dash ∷ more) e in
    let first : p ≡ q = one_peer p q a.0 b.0 h.0 in
    let rest = same_opening one other behind more a.1 b.1 h.1 in
    (λ i. first i ∷ rest.0 i, rest.1)

pub one_opening : (input : List ℕ) (one other : List Peer) (behind more : List (List ℕ)) → OpensWithState input one behind → OpensWithState input other more → (one ≡ other) × (behind ≡ more)
one_opening input one other behind more a b = same_opening one other behind more a.state.each b.state.each (sym a.lines ∙ b.lines)
