-- The times that are admitted under a key.
use Rattle.std.proofs.Common.{◌≡◌, ◌<ℤ◌, ℤ, true, false, if◌then◌else◌, Option, None, Some, Result, Ok, Err, List, [], ◌∷◌, ◌++◌, map, ℕ, refl, sym, ap, subst, ◌∙◌, arith}
use Rattle.std.specs.List.{AllByRecursion}
use Rattle.std.specs.Int.Signed.{lt_z, lt_z_yes}
use Rattle.std.proofs.lemmas.Float.{T_from_true}
use Rattle.std.proofs.lemmas.Int.{ints}
use Rattle.rpki_base.specs.PublicKey.{KeyFields}
use Rattle.rpki_base.specs.Scheme.{Relation}
use Rattle.rpki_base.specs.declared.validation.ValidationError.{ValidationError}
use Rattle.rpki_sigmsg.specs.Message.{MessageFields}
use Rattle.rpki_replay.specs.declared.peers.Peer.{Peer}
use Rattle.rpki_replay.specs.declared.guard.GuardError.{GuardError}
use Rattle.rpki_replay.specs.declared.guard.GuardError.TheVariants.{Replayed}
use Rattle.rpki_replay.specs.State.{last_of, put, IsPeer}
use Rattle.rpki_ca.specs.Keys.{same_key}
use Rattle.rpki_replay.specs.StateText.{IsStateText, peer_line}
use Rattle.rpki_replay.specs.Admission.{IsAdmission, answer_behind, judged, state_behind}
use Rattle.rpki_replay.specs.History.{AreMade, Call, IsLaterThan, Rise, times_under, times_with}
use Rattle.rpki_ca.proofs.Keys.{key_is, key_itself}
use Rattle.rpki_replay.proofs.Lines.{state_lines}
use Rattle.rpki_replay.proofs.Texts.{one_peer}

-- ---- one state a text

nil_cons : {X : Type 0} (x : X) (xs : List X) → [] ≡ x ∷ xs → ⊥
nil_cons x xs e = cc

heads : {X : Type 0} (x y : X) (xs ys : List X) → x ∷ xs ≡ y ∷ ys → (x ≡ y) × (xs ≡ ys)
heads x y xs ys e = (let h : x ≡ y = cc in h, let t : xs ≡ ys = cc in t)

same_peers : (one other : List Peer) → AllByRecursion IsPeer one → AllByRecursion IsPeer other → map peer_line one ≡ map peer_line other → one ≡ other
same_peers [] [] a b e = refl
same_peers [] (peer ∷ other) a b e = absurd (nil_cons (peer_line peer) (map peer_line other) e)
same_peers (peer ∷ one) [] a b e = absurd (nil_cons (peer_line peer) (map peer_line one) (sym e))
same_peers (p ∷ one) (q ∷ other) a b e =
    let h = heads (peer_line p) (peer_line q) (map peer_line one) (map peer_line other) e in
    let first = one_peer p q a.0 b.0 h.0 in
    let more = same_peers one other a.1 b.1 h.1 in
    λ i. first i ∷ more i

pub state_once : (text : List ℕ) (one other : List Peer) → IsStateText text one → IsStateText text other → one ≡ other
state_once text one other a b = same_peers one other a.state.each b.state.each (sym (state_lines text one a) ∙ state_lines text other b)

-- ---- what an admission says

ok_err : (t : ℤ) (e : GuardError) → Err e ≡ Ok t → ⊥
ok_err t e h = cc

abbrev given_ok : ℤ → Result ℤ GuardError
given_ok t = Ok t

ok_ok : (s t : ℤ) → given_ok s ≡ given_ok t → s ≡ t
ok_ok s t e = cc

judged_later : (last seen : Option ℤ) (time : ℤ) → judged last seen ≡ Ok time → (seen ≡ Some time) × IsLaterThan last time
judged_later last None time e = absurd (ok_err time _ e)
judged_later None (Some s) time e = (ap (λ (z : ℤ). Some z) (ok_ok s time e), tt)
judged_later (Some l) (Some s) time e =
    elim (lt_z l s) as (λ t. lt_z l s ≡ t → (if t then Ok s else Err (Replayed l s)) ≡ Ok time → (Some s ≡ Some time) × (l <ℤ time)) [
      | true ↦ λ less ok. let same = ok_ok s time ok in (ap (λ (z : ℤ). Some z) same, subst (λ (z : ℤ). l <ℤ z) same (lt_z_yes (T_from_true _ less)))
      | false ↦ λ less ok. absurd (ok_err time (Replayed l s) ok)
    ] refl e

behind_later : (v : Result (Unit {0}) ValidationError) (last seen : Option ℤ) (time : ℤ) → answer_behind v last seen ≡ Ok time → (seen ≡ Some time) × IsLaterThan last time
behind_later (Ok u) last seen time e = judged_later last seen time e
behind_later (Err f) last seen time e = absurd (ok_err time _ e)

pub admitted_later : (scheme : Relation) (peers : List Peer) (key : KeyFields) (m : MessageFields) (when : ℤ) (answer : Result ℤ GuardError) (time : ℤ) → IsAdmission scheme peers key m when answer → answer ≡ Ok time
    → (m.signing_time ≡ Some time) × IsLaterThan (last_of peers key) time
admitted_later scheme peers key m when answer time is e = behind_later is.validation (last_of peers key) m.signing_time time (sym is.is ∙ e)

-- ---- what is held behind it

pub put_here : (peers : List Peer) (key : KeyFields) (time : ℤ) → last_of (put peers key time) key ≡ Some time
put_here [] key time = rw (key_itself key) refl
put_here (peer ∷ more) key time =
    elim (same_key key peer.key) as (λ t. same_key key peer.key ≡ t → last_of (if t then record { key = peer.key; last = time } ∷ more else peer ∷ put more key time) key ≡ Some time) [
      | true ↦ λ here. rw here refl
      | false ↦ λ other. rw other (put_here more key time)
    ] refl

pub put_other : (peers : List Peer) (key : KeyFields) (time : ℤ) (other : KeyFields) → same_key other key ≡ false → last_of (put peers key time) other ≡ last_of peers other
put_other [] key time other apart = rw apart refl
put_other (peer ∷ more) key time other apart =
    elim (same_key key peer.key) as (λ t. same_key key peer.key ≡ t → last_of (if t then record { key = peer.key; last = time } ∷ more else peer ∷ put more key time) other ≡ last_of (peer ∷ more) other) [
      | true ↦ λ here. let is : key ≡ peer.key = key_is key peer.key here in let no : same_key other peer.key ≡ false = ap (λ (k : KeyFields). same_key other k) (sym is) ∙ apart in rw no refl
      | false ↦ λ there. ap (λ (o : Option ℤ). if same_key other peer.key then Some peer.last else o) (put_other more key time other apart)
    ] refl

-- ---- the times rise

step : (scheme : Relation) (peers : List Peer) (call : Call) (times : List ℤ) (key : KeyFields) (answer : Result ℤ GuardError) → call.answer ≡ answer → IsAdmission scheme peers call.key call.message call.when call.answer
    → Rise (last_of (state_behind peers call.key answer) key) times → Rise (last_of peers key) (if same_key key call.key then times_with answer times else times)
step scheme peers call times key (Err e) is admission rise =
    elim (same_key key call.key) as (λ t. Rise (last_of peers key) (if t then times else times)) [ true ↦ rise | false ↦ rise ]
step scheme peers call times key (Ok time) is admission rise =
    elim (same_key key call.key) as (λ t. same_key key call.key ≡ t → Rise (last_of peers key) (if t then time ∷ times else times)) [
      | true ↦ λ same.
          let one : key ≡ call.key = key_is key call.key same in
          let later = admitted_later scheme peers call.key call.message call.when call.answer time admission is in
          let held : last_of (put peers call.key time) key ≡ Some time = ap (λ (k : KeyFields). last_of (put peers call.key time) k) one ∙ put_here peers call.key time in
          (subst (λ (k : KeyFields). IsLaterThan (last_of peers k) time) (sym one) later.1, subst (λ (o : Option ℤ). Rise o times) held rise)
      | false ↦ λ other. subst (λ (o : Option ℤ). Rise o times) (put_other peers call.key time key other) rise
    ] refl

pub rising : (scheme : Relation) (peers : List Peer) (calls : List Call) (key : KeyFields) → AreMade scheme peers calls → Rise (last_of peers key) (times_under key calls)
rising scheme peers [] key made = tt
rising scheme peers (call ∷ calls) key made =
    step scheme peers call (times_under key calls) key call.answer refl made.0 (rising scheme (state_behind peers call.key call.answer) calls key made.1)

-- ---- none twice

behind_calls : (scheme : Relation) (peers : List Peer) (before calls : List Call) → AreMade scheme peers (before ++ calls) → (state : List Peer) × AreMade scheme state calls
behind_calls scheme peers [] calls made = (peers, made)
behind_calls scheme peers (call ∷ before) calls made = behind_calls scheme (state_behind peers call.key call.answer) before calls made.1

later_trans : (a b c : ℤ) → a <ℤ b → b <ℤ c → a <ℤ c
later_trans a b c p q = omega (arith, ints)

not_itself : (a : ℤ) → a <ℤ a → ⊥
not_itself a p = omega (arith, ints)

-- a time that is admitted is later than one that rose before
later_than : (last : ℤ) (times : List ℤ) (time : ℤ) (more : List ℤ) → Rise (Some last) (times ++ time ∷ more) → last <ℤ time
later_than last [] time more rise = rise.0
later_than last (t ∷ times) time more rise = later_trans last t time rise.0 (later_than t times time more rise.1)

times_split : (key : KeyFields) (before : List Call) (other : Call) (behind : List Call) (time : ℤ) → same_key key other.key ≡ true → other.answer ≡ Ok time
    → (front : List ℤ) × (back : List ℤ) × (times_under key (before ++ other ∷ behind) ≡ front ++ time ∷ back)
times_split key [] other behind time same ok = ([], times_under key behind, rw (same, ok) refl)
times_split key (call ∷ before) other behind time same ok =
    let more = times_split key before other behind time same ok in
    elim (same_key key call.key) as (λ t. (front : List ℤ) × (back : List ℤ) × ((if t then times_with call.answer (times_under key (before ++ other ∷ behind)) else times_under key (before ++ other ∷ behind)) ≡ front ++ time ∷ back)) [
      | true ↦ with_answer call.answer more.0 more.1 more.2
      | false ↦ more
    ]
  where
    with_answer : (answer : Result ℤ GuardError) (front back : List ℤ) → times_under key (before ++ other ∷ behind) ≡ front ++ time ∷ back
        → (f : List ℤ) × (b : List ℤ) × (times_with answer (times_under key (before ++ other ∷ behind)) ≡ f ++ time ∷ b)
    with_answer (Ok t) front back e = (t ∷ front, back, ap (λ (l : List ℤ). t ∷ l) e)
    with_answer (Err err) front back e = (front, back, e)

pub not_twice : (scheme : Relation) (peers : List Peer) (before between behind : List Call) (one other : Call) (first second : ℤ) → AreMade scheme peers (before ++ one ∷ (between ++ other ∷ behind))
    → one.key ≡ other.key → one.message ≡ other.message → one.answer ≡ Ok first → other.answer ≡ Ok second → ⊥
not_twice scheme peers before between behind one other first second made key message first_ok second_ok =
    let at = behind_calls scheme peers before (one ∷ (between ++ other ∷ behind)) made in
    let one_said = admitted_later scheme at.0 one.key one.message one.when one.answer first at.1.0 first_ok in
    let made_behind : AreMade scheme (put at.0 one.key first) (between ++ other ∷ behind) = subst (λ (a : Result ℤ GuardError). AreMade scheme (state_behind at.0 one.key a) (between ++ other ∷ behind)) first_ok at.1.1 in
    let at_other = behind_calls scheme (put at.0 one.key first) between (other ∷ behind) made_behind in
    let other_said = admitted_later scheme at_other.0 other.key other.message other.when other.answer second at_other.1.0 second_ok in
    let times : Some first ≡ Some second = sym one_said.0 ∙ ap (λ (m : MessageFields). m.signing_time) message ∙ other_said.0 in
    let same : first ≡ second = some_time first second times in
    let rise : Rise (Some first) (times_under one.key (between ++ other ∷ behind)) =
    subst (λ (o : Option ℤ). Rise o (times_under one.key (between ++ other ∷ behind))) (put_here at.0 one.key first) (rising scheme (put at.0 one.key first) (between ++ other ∷ behind) one.key made_behind) in
    let itself : same_key one.key other.key ≡ true = ap (λ (k : KeyFields). same_key one.key k) (sym key) ∙ key_itself one.key in
    let split = times_split one.key between other behind second itself second_ok in
    let less = later_than first split.0 second split.1 (subst (Rise (Some first)) split.2 rise) in
    not_itself first (subst (λ (z : ℤ). first <ℤ z) (sym same) less)
  where
    some_time : (a b : ℤ) → Some a ≡ Some b → a ≡ b
    some_time a b e = cc
