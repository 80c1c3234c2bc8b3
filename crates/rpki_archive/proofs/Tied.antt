-- One verdict a line, what ties it to the explanation, and how a run ends.
use Rattle.std.proofs.Common.{◌≡◌, ◌⊎◌, ◌≤◌, ◌^◌, ℕ, ℤ, Bool, true, Option, Some, Result, Ok, Err, List, [], ◌∷◌, map, max, length, inl, inr, refl, sym, ap, subst, ◌∙◌, arith}
use Rattle.rpki_base.specs.Checks.{first_failure, failing}
use Rattle.rpki_base.specs.PublicKey.{KeyFields}
use Rattle.rpki_base.specs.Scheme.{Relation}
use Rattle.rpki_base.specs.declared.validation.ValidationError.{ValidationError}
use Rattle.rpki_sigmsg.specs.Beginning.{BeginsSigned, HoldsContent}
use Rattle.rpki_sigmsg.specs.Checks.{AreChecks, AreOutcomes, IsAmong, IsBelieved, checks, kind_of, ranked}
use Rattle.rpki_sigmsg.specs.Message.{MessageFields}
use Rattle.rpki_sigmsg.proofs.AnyKey.{at_one}
use Rattle.std.specs.List.{AllByRecursion}
use Rattle.rpki_ca.specs.Acceptance.{ReadsAs}
use Rattle.rpki_ca.specs.Answer.{AnswersSpelled, FailsAt, IsReceiveAnswer}
use Rattle.rpki_ca.specs.Creation.{RefusesInput}
use Rattle.rpki_ca.specs.Lines.{EndsRun, StopsForMemory, WroteAll, lines_of, words_of}
use Rattle.rpki_ca.specs.Seen.{HasFailed, Seen}
use Rattle.rpki_ca.specs.declared.command.Command.TheVariants.{Receive}
use Rattle.rpki_ca.specs.declared.receiving.Kind.{Kind}
use Rattle.rpki_ca.specs.declared.receiving.Received.{Received}
use Rattle.rpki_ca.specs.declared.refusals.Refusal.{Refusal}
use Rattle.rpki_ca.specs.declared.refusals.Refusal.TheVariants as refusals
use Rattle.rpki_ca.proofs.Commands.{is_command}
use Rattle.rpki_ca.proofs.Ended.{lines_end, on_input, on_input_or_12, wrote_all}
use Rattle.rpki_ca.proofs.Laws.{one_answer_to_words, one_signed}
use Rattle.rpki_ca.proofs.Reasons.{no_reason, reason}
use Rattle.rpki_archive.specs.Checking.{AreAllExplanations, AreAllVerdicts, EndsArchiveTask}
use Rattle.rpki_archive.specs.Explanation.{IsExplanation, IsSaidOfSpelled}
use Rattle.rpki_ca.specs.Lines.{digit_of}
use Rattle.rpki_archive.specs.Lines.{IsLine}
use Rattle.rpki_archive.specs.Ties.{BringsMessage, TellsSame}
use Rattle.rpki_archive.specs.Verdict.{Entry, IsLineAnswer, command_words}
use Rattle.rpki_archive.specs.declared.checking.Task.{Task}
use Rattle.rpki_archive.specs.declared.checking.Task.TheVariants.{Batch, Explain}
use Rattle.rpki_archive.proofs.Asking.{envelope_short, other_count}

-- ---- one verdict

entry_or_none : (line : List ℕ) (words : List (List ℕ)) → words_of line ≡ words → Entry line ⊎ (Entry line → ⊥)
entry_or_none line [] e = inr (other_count line [] e (λ n. omega (arith, n)))
entry_or_none line (a ∷ []) e = inr (other_count line (a ∷ []) e (λ n. omega (arith, n)))
entry_or_none line (a ∷ b ∷ []) e = inr (other_count line (a ∷ b ∷ []) e (λ n. omega (arith, n)))
entry_or_none line (a ∷ b ∷ c ∷ []) e = inr (other_count line (a ∷ b ∷ c ∷ []) e (λ n. omega (arith, n)))
entry_or_none line (a ∷ b ∷ c ∷ d ∷ []) e = inl (record { kind = a; moment = b; key = c; envelope = d; words = e })
entry_or_none line (a ∷ b ∷ c ∷ d ∷ f ∷ more) e = inr (other_count line (a ∷ b ∷ c ∷ d ∷ f ∷ more) e (λ n. omega (arith, n)))

pub one_verdict : (scheme : Relation) (line : List ℕ) (one other : Result (List ℕ) Refusal) → IsLineAnswer scheme line one → IsLineAnswer scheme line other → one ≡ other
one_verdict scheme line one other p q =
    elim (entry_or_none line (words_of line) refl) [
      | inl e ↦ one_answer_to_words scheme (command_words e) e.envelope one other (p.entry e) (q.entry e)
      | inr none ↦ p.other none ∙ sym (q.other none)
    ]

-- ---- the digits and the verdict

-- the only key of a list
only_key : (key held : KeyFields) → IsAmong (key ∷ []) held → held ≡ key
only_key key held among = at_one (λ k. k ≡ key) among.before held among.behind (subst (AllByRecursion (λ k. k ≡ key)) among.parts (refl, tt))

-- what is believed passes by every right answer
believed_passes : (scheme : Relation) (m : MessageFields) (key : KeyFields) (when : ℤ) (list : List Bool) → IsBelieved scheme m key when → AreChecks scheme m key when list → first_failure 1 list ≡ Ok tt
believed_passes scheme m key when list b are =
    let one = are.asked.attributes.1 b.signatures.attributes in
    let two = are.asked.certificate.1 b.signatures.certificate in
    let three = are.asked.crls.1 b.signatures.crls in
    let same : list ≡ checks m key when true true true = are.are ∙ (λ i. checks m key when (one i) (two i) (three i)) in
    ap (first_failure 1) same ∙ b.passes

abbrev ok_of : ℕ → Result ℕ ValidationError
ok_of n = Ok n

abbrev err_of : ValidationError → Result ℕ ValidationError
err_of e = Err e

-- the greatest under one key is the one under it
named : (o : Result (Unit {0}) ℕ) (error : ValidationError) → failing kind_of (ranked (o ∷ [])) ≡ Err error → o ≡ Err error.check
named (Ok tt) error e = absurd (no error e)
  where
    no : (error : ValidationError) → ok_of 0 ≡ err_of error → ⊥
    no error e = cc
named (Err n) error e =
    let check : max n 0 ≡ error.check = ap number e in
    ap (λ (k : ℕ). Err k) (no_more n ∙ check)
  where
    number : Result ℕ ValidationError → ℕ
    number (Ok n) = n
    number (Err f) = f.check

    no_more : (n : ℕ) → n ≡ max n 0
    no_more n = omega arith

no_reading : (kind : Kind) (octets : List ℕ) (signed : MessageFields) (m : Received) (e : Refusal) → BeginsSigned octets signed → ReadsAs kind signed.content m → HoldsContent (λ o. RefusesInput kind o e) octets → ⊥
no_reading kind octets signed m e b r h =
    no_reason kind h.signed.content m e (subst (λ (s : MessageFields). ReadsAs kind s.content m) (one_signed octets signed h.signed b h.begins) r) (reason kind h.signed.content e h.content)

fails_there : (scheme : Relation) (kind : Kind) (octets : List ℕ) (key : KeyFields) (when : ℤ) (signed : MessageFields) (list : List Bool) (n : ℕ) → BeginsSigned octets signed → AreChecks scheme signed key when list
    → FailsAt scheme kind octets (key ∷ []) when n → first_failure 1 list ≡ Err n
fails_there scheme kind octets key when signed list n begins are r =
    let same : signed ≡ r.fails.signed = one_signed octets signed r.fails.signed begins r.fails.begins in
    let outcomes : AreOutcomes scheme r.fails.signed (key ∷ []) when (first_failure 1 list ∷ []) =
    subst (λ (m : MessageFields). AreOutcomes scheme m (key ∷ []) when (first_failure 1 list ∷ [])) same (record { asked = are.asked; is = ap (first_failure 1) are.are }, tt) in
    named (first_failure 1 list) r.error (r.fails.greatest (first_failure 1 list ∷ []) outcomes) ∙ ap (λ (k : ℕ). Err k) (sym r.number)

tells_same : (scheme : Relation) (kind : Kind) (octets : List ℕ) (key : KeyFields) (when : ℤ) (signed : MessageFields) (message : Received) (list : List Bool) (answer : Result (List ℕ) Refusal) → BeginsSigned octets signed
    → ReadsAs kind signed.content message → AreChecks scheme signed key when list → IsReceiveAnswer scheme kind octets (key ∷ []) when answer → TellsSame list answer
tells_same scheme kind octets key when signed message list (Ok text) begins reads are r =
    let same : r.accepted.signed ≡ signed = one_signed octets r.accepted.signed signed r.accepted.begins begins in
    let held : r.accepted.believed.key ≡ key = only_key key r.accepted.believed.key r.accepted.believed.among in
    let believed = subst (λ (m : MessageFields). IsBelieved scheme m key when) same (subst (λ (k : KeyFields). IsBelieved scheme r.accepted.signed k when) held r.accepted.believed.believed) in
    believed_passes scheme signed key when list believed are
tells_same scheme kind octets key when signed message list (Err (refusals.Validation n)) begins reads are r = fails_there scheme kind octets key when signed list n begins are r
tells_same scheme kind octets key when signed message list (Err refusals.CmsDecode) begins reads are r = absurd (r signed begins)
tells_same scheme kind octets key when signed message list (Err refusals.XmlError) begins reads are r = absurd (no_reading kind octets signed message refusals.XmlError begins reads r)
tells_same scheme kind octets key when signed message list (Err refusals.CertSyntax) begins reads are r = absurd (no_reading kind octets signed message refusals.CertSyntax begins reads r)
tells_same scheme kind octets key when signed message list (Err refusals.InvalidCsrSyntax) begins reads are r = absurd (no_reading kind octets signed message refusals.InvalidCsrSyntax begins reads r)
tells_same scheme kind octets key when signed message list (Err refusals.Usage) begins reads are r = absurd r
tells_same scheme kind octets key when signed message list (Err refusals.Hex) begins reads are r = absurd r
tells_same scheme kind octets key when signed message list (Err refusals.InvalidTaCertEncoding) begins reads are r = absurd r
tells_same scheme kind octets key when signed message list (Err refusals.InvalidTaCert) begins reads are r = absurd r
tells_same scheme kind octets key when signed message list (Err refusals.TooLong) begins reads are r = absurd r
tells_same scheme kind octets key when signed message list (Err refusals.KeyNotFound) begins reads are r = absurd r
tells_same scheme kind octets key when signed message list (Err refusals.IncompatibleKey) begins reads are r = absurd r
tells_same scheme kind octets key when signed message list (Err refusals.KeyReused) begins reads are r = absurd r
tells_same scheme kind octets key when signed message list (Err refusals.Signer) begins reads are r = absurd r
tells_same scheme kind octets key when signed message list (Err refusals.Moment) begins reads are r = absurd r
tells_same scheme kind octets key when signed message list (Err refusals.ReadFault) begins reads are r = absurd r
tells_same scheme kind octets key when signed message list (Err refusals.OutOfMemory) begins reads are r = absurd r

pub digits_tell : (scheme : Relation) (line text : List ℕ) (answer : Result (List ℕ) Refusal) → IsLine line → BringsMessage line → IsExplanation scheme line text → IsLineAnswer scheme line answer
    → (checks : List Bool) × (text ≡ map digit_of checks) × TellsSame checks answer
digits_tell scheme line text answer line_is b explained answered =
    let said = subst (λ (o : Option (List ℕ)). IsSaidOfSpelled scheme o b.key b.when text) b.spelled ((explained.entry b.entry).checks b.kind b.when b.key b.receive) in
    let digits = said.some b.reads.signed b.reads.begins in
    let given = subst (λ (o : Option (List ℕ)). AnswersSpelled scheme (Receive b.kind b.when (b.key ∷ [])) o answer) b.spelled
    ((answered.entry b.entry).answers (Receive b.kind b.when (b.key ∷ [])) (is_command (command_words b.entry) b.kind b.when (b.key ∷ []) b.receive) (λ reads. envelope_short line b.entry line_is)) in
    let reads = subst (λ (m : MessageFields). ReadsAs b.kind m.content b.message) (one_signed b.octets b.reads.signed digits.signed b.reads.begins digits.begins) b.reads.content in
    (digits.checks, digits.written, tells_same scheme b.kind b.octets b.key b.when digits.signed b.message digits.checks answer digits.begins reads digits.are given)

-- ---- how a run ends

task_ends : (scheme : Relation) (task : Task) (lines : List (List ℕ)) (status : ℕ) (sink : Seen) → ¬ (HasFailed sink) → EndsArchiveTask scheme task lines status sink → (status ≡ 0) ⊎ (status ≡ 12)
task_ends scheme Batch lines status sink none ends = lines_end _ _ (StopsForMemory _) status sink (λ texts r stops. stops.1) none ends
task_ends scheme Explain lines status sink none ends = lines_end _ _ (StopsForMemory _) status sink (λ texts r stops. stops.1) none ends

pub ends_so : (scheme : Relation) (task : Task) (status : ℕ) (source sink : Seen) (input : List ℕ) → EndsRun (λ octets. EndsArchiveTask scheme task (lines_of octets) status sink) status source sink → source.before ≡ Some input → length input ≤ 2 ^ 26
    → ¬ (HasFailed source) → ¬ (HasFailed sink) → (status ≡ 0) ⊎ (status ≡ 12)
ends_so scheme task status source sink input run e le sound whole =
    elim (on_input_or_12 (λ octets. EndsArchiveTask scheme task (lines_of octets) status sink) status source sink input run e le sound whole) [
      | inl memory ↦ inr memory
      | inr ends ↦ task_ends scheme task (lines_of input) status sink whole ends
    ]

-- ---- with 0

pub batch_wrote : (scheme : Relation) (source sink : Seen) (input : List ℕ) → EndsRun (λ octets. EndsArchiveTask scheme Batch (lines_of octets) 0 sink) 0 source sink → source.before ≡ Some input → WroteAll (AreAllVerdicts scheme (lines_of input)) sink
batch_wrote scheme source sink input run e = wrote_all (AreAllVerdicts scheme (lines_of input)) _ (StopsForMemory _) sink (on_input (λ octets. EndsArchiveTask scheme Batch (lines_of octets) 0 sink) source sink input run e)

pub explain_wrote : (scheme : Relation) (source sink : Seen) (input : List ℕ) → EndsRun (λ octets. EndsArchiveTask scheme Explain (lines_of octets) 0 sink) 0 source sink → source.before ≡ Some input → WroteAll (AreAllExplanations scheme (lines_of input)) sink
explain_wrote scheme source sink input run e = wrote_all (AreAllExplanations scheme (lines_of input)) _ (StopsForMemory _) sink (on_input (λ octets. EndsArchiveTask scheme Explain (lines_of octets) 0 sink) source sink input run e)
