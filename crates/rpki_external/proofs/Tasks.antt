-- The task that the words ask for: it is one, and where no task has its words they ask for nothing.
use Rattle.std.proofs.Common.{◌≡◌, ◌≤◌, ℕ, ℤ, Option, Some, List, codes, drop, length, refl, sym, ap, ◌∙◌, arith}
use Rattle.std.specs.Prelude.{bytes_eq, if◌then◌else◌}
use Rattle.rpki_common.proofs.Truths.{same_some}
use Rattle.rpki_base.specs.PublicKey.{KeyFields}
use Rattle.rpki_base.specs.Validity.{ValidityFields}
use Rattle.rpki_ca.specs.Words.{key_of_word}
use Rattle.rpki_ca.specs.declared.receiving.Kind.{Kind}
use Rattle.rpki_ca.specs.declared.setup_message.SetupKind.{SetupKind}
use Rattle.rpki_ca.proofs.Commands.{one_moment_at, same_count}
use Rattle.rpki_external.specs.Answers.{AnswersFields}
use Rattle.rpki_external.specs.Words.{AreFewKeys, HasFewKeys, HasWord, IsAsked, IsFinished, IsKeysTask, IsPrepared, IsVerified}
use Rattle.rpki_external.specs.declared.preparing.Plan.{Plan}
use Rattle.rpki_external.specs.declared.preparing.Signatures.{Signatures}
use Rattle.rpki_external.specs.declared.preparing_requests.RequestPlan.{RequestPlan}
use Rattle.rpki_external.specs.declared.task.Asked.{Asked}
use Rattle.rpki_external.specs.declared.task.Asked.TheVariants as asked
use Rattle.rpki_external.specs.declared.task.Finished.{Finished}
use Rattle.rpki_external.specs.declared.task.Finished.TheVariants as finished
use Rattle.rpki_external.specs.declared.task.Prepared.{Prepared}
use Rattle.rpki_external.specs.declared.task.Prepared.TheVariants as prepared
use Rattle.rpki_external.specs.declared.task.Verified.{Verified}
use Rattle.rpki_external.specs.declared.task.Verified.TheVariants as verified
use Rattle.rpki_external.specs.declared.task.Task.{Task}
use Rattle.rpki_external.specs.declared.task.Task.TheVariants as tasks
use Rattle.rpki_external.proofs.WordParts.{apart, one_answers, one_last, one_list, one_named, one_plan, one_request_plan, one_signing, one_validity}

-- ---- the first word

-- which of the five sorts of task a first word asks for
abbrev sort_of : List ℕ → ℕ
sort_of word =
    if bytes_eq word (codes "questions") then 0
    else if bytes_eq word (codes "inspect") then 2
    else if bytes_eq word (codes "prepare") then 3
    else if bytes_eq word (codes "finish") then 4
    else 1

-- the first word asks for a task of this sort
pub record AsksFor (words : List (List ℕ)) (sort : ℕ) : Type 0 where
  pub verb : List ℕ
  pub stands : HasWord words 0 verb
  pub is : sort_of verb ≡ sort

one_sort : (words : List (List ℕ)) (m n : ℕ) → AsksFor words m → AsksFor words n → m ≡ n
one_sort words m n p q = sym p.is ∙ ap sort_of (same_some p.verb q.verb (sym p.stands ∙ q.stands)) ∙ q.is

pub asks_for : (words : List (List ℕ)) (verb : List ℕ) → HasWord words 0 verb → AsksFor words (sort_of verb)
asks_for words verb p = record { verb = verb; stands = p; is = refl }

asked_first : (words : List (List ℕ)) (what : Asked) → IsAsked words what → AsksFor words 0
asked_first words (asked.Message keys) p = record { verb = codes "questions"; stands = p.verb_is; is = refl }
asked_first words (asked.Setup kind) p = record { verb = codes "questions"; stands = p.0.verb_is; is = refl }
asked_first words asked.Request p = record { verb = codes "questions"; stands = p.verb_is; is = refl }
asked_first words asked.Issue p = record { verb = codes "questions"; stands = p.verb_is; is = refl }

verified_first : (words : List (List ℕ)) (what : Verified) (answers : AnswersFields) → IsVerified words what answers → AsksFor words 1
verified_first words (verified.Message kind when last keys) answers p = record { verb = codes "receive"; stands = p.verb_is; is = refl }
verified_first words (verified.Checks when key) answers p = record { verb = codes "explain"; stands = p.0.verb_is; is = refl }
verified_first words (verified.Setup kind when) answers p = record { verb = codes "setup"; stands = p.0.verb_is; is = refl }
verified_first words verified.Request answers p = record { verb = codes "request"; stands = p.0.verb_is; is = refl }
verified_first words verified.Issue answers p = record { verb = codes "issue"; stands = p.0.verb_is; is = refl }

prepared_first : (words : List (List ℕ)) (what : Prepared) → IsPrepared words what → AsksFor words 3
prepared_first words (prepared.Message kind plan) p = record { verb = codes "prepare"; stands = p.0.verb_is; is = refl }
prepared_first words (prepared.Anchor validity key) p = record { verb = codes "prepare"; stands = p.0.verb_is; is = refl }
prepared_first words (prepared.Request plan) p = record { verb = codes "prepare"; stands = p.0.verb_is; is = refl }

finished_first : (words : List (List ℕ)) (what : Finished) → IsFinished words what → AsksFor words 4
finished_first words (finished.Message kind plan signatures) p = record { verb = codes "finish"; stands = p.0.verb_is; is = refl }
finished_first words (finished.Anchor validity key signature) p = record { verb = codes "finish"; stands = p.0.verb_is; is = refl }
finished_first words (finished.Request plan signature) p = record { verb = codes "finish"; stands = p.0.verb_is; is = refl }

abbrev sort : Task → ℕ
sort (tasks.Ask what) = 0
sort (tasks.Verify what answers) = 1
sort tasks.Inspect = 2
sort (tasks.Prepare what) = 3
sort (tasks.Finish what) = 4

first_of : (words : List (List ℕ)) (task : Task) → IsKeysTask words task → AsksFor words (sort task)
first_of words (tasks.Ask what) p = asked_first words what p
first_of words (tasks.Verify what answers) p = verified_first words what answers p
first_of words tasks.Inspect p = record { verb = codes "inspect"; stands = p.verb_is; is = refl }
first_of words (tasks.Prepare what) p = prepared_first words what p
first_of words (tasks.Finish what) p = finished_first words what p

pub is_ask : (words : List (List ℕ)) (task : Task) → AsksFor words 0 → IsKeysTask words task → (what : Asked) × (task ≡ tasks.Ask what) × IsAsked words what
is_ask words (tasks.Ask what) h p = (what, refl, p)
is_ask words (tasks.Verify what answers) h p = let e : ◌≡◌ {A = ℕ} 0 1 = one_sort words 0 1 h (first_of words (tasks.Verify what answers) p) in absurd (omega (arith, e))
is_ask words tasks.Inspect h p = let e : ◌≡◌ {A = ℕ} 0 2 = one_sort words 0 2 h (first_of words tasks.Inspect p) in absurd (omega (arith, e))
is_ask words (tasks.Prepare what) h p = let e : ◌≡◌ {A = ℕ} 0 3 = one_sort words 0 3 h (first_of words (tasks.Prepare what) p) in absurd (omega (arith, e))
is_ask words (tasks.Finish what) h p = let e : ◌≡◌ {A = ℕ} 0 4 = one_sort words 0 4 h (first_of words (tasks.Finish what) p) in absurd (omega (arith, e))

pub is_verify : (words : List (List ℕ)) (task : Task) → AsksFor words 1 → IsKeysTask words task → (what : Verified) × (answers : AnswersFields) × (task ≡ tasks.Verify what answers) × IsVerified words what answers
is_verify words (tasks.Ask what) h p = let e : ◌≡◌ {A = ℕ} 1 0 = one_sort words 1 0 h (first_of words (tasks.Ask what) p) in absurd (omega (arith, e))
is_verify words (tasks.Verify what answers) h p = (what, answers, refl, p)
is_verify words tasks.Inspect h p = let e : ◌≡◌ {A = ℕ} 1 2 = one_sort words 1 2 h (first_of words tasks.Inspect p) in absurd (omega (arith, e))
is_verify words (tasks.Prepare what) h p = let e : ◌≡◌ {A = ℕ} 1 3 = one_sort words 1 3 h (first_of words (tasks.Prepare what) p) in absurd (omega (arith, e))
is_verify words (tasks.Finish what) h p = let e : ◌≡◌ {A = ℕ} 1 4 = one_sort words 1 4 h (first_of words (tasks.Finish what) p) in absurd (omega (arith, e))

pub is_inspect : (words : List (List ℕ)) (task : Task) → AsksFor words 2 → IsKeysTask words task → (task ≡ tasks.Inspect) × (length words ≡ 1)
is_inspect words (tasks.Ask what) h p = let e : ◌≡◌ {A = ℕ} 2 0 = one_sort words 2 0 h (first_of words (tasks.Ask what) p) in absurd (omega (arith, e))
is_inspect words (tasks.Verify what answers) h p = let e : ◌≡◌ {A = ℕ} 2 1 = one_sort words 2 1 h (first_of words (tasks.Verify what answers) p) in absurd (omega (arith, e))
is_inspect words tasks.Inspect h p = (refl, p.count_is)
is_inspect words (tasks.Prepare what) h p = let e : ◌≡◌ {A = ℕ} 2 3 = one_sort words 2 3 h (first_of words (tasks.Prepare what) p) in absurd (omega (arith, e))
is_inspect words (tasks.Finish what) h p = let e : ◌≡◌ {A = ℕ} 2 4 = one_sort words 2 4 h (first_of words (tasks.Finish what) p) in absurd (omega (arith, e))

pub is_prepare : (words : List (List ℕ)) (task : Task) → AsksFor words 3 → IsKeysTask words task → (what : Prepared) × (task ≡ tasks.Prepare what) × IsPrepared words what
is_prepare words (tasks.Ask what) h p = let e : ◌≡◌ {A = ℕ} 3 0 = one_sort words 3 0 h (first_of words (tasks.Ask what) p) in absurd (omega (arith, e))
is_prepare words (tasks.Verify what answers) h p = let e : ◌≡◌ {A = ℕ} 3 1 = one_sort words 3 1 h (first_of words (tasks.Verify what answers) p) in absurd (omega (arith, e))
is_prepare words tasks.Inspect h p = let e : ◌≡◌ {A = ℕ} 3 2 = one_sort words 3 2 h (first_of words tasks.Inspect p) in absurd (omega (arith, e))
is_prepare words (tasks.Prepare what) h p = (what, refl, p)
is_prepare words (tasks.Finish what) h p = let e : ◌≡◌ {A = ℕ} 3 4 = one_sort words 3 4 h (first_of words (tasks.Finish what) p) in absurd (omega (arith, e))

pub is_finish : (words : List (List ℕ)) (task : Task) → AsksFor words 4 → IsKeysTask words task → (what : Finished) × (task ≡ tasks.Finish what) × IsFinished words what
is_finish words (tasks.Ask what) h p = let e : ◌≡◌ {A = ℕ} 4 0 = one_sort words 4 0 h (first_of words (tasks.Ask what) p) in absurd (omega (arith, e))
is_finish words (tasks.Verify what answers) h p = let e : ◌≡◌ {A = ℕ} 4 1 = one_sort words 4 1 h (first_of words (tasks.Verify what answers) p) in absurd (omega (arith, e))
is_finish words tasks.Inspect h p = let e : ◌≡◌ {A = ℕ} 4 2 = one_sort words 4 2 h (first_of words tasks.Inspect p) in absurd (omega (arith, e))
is_finish words (tasks.Prepare what) h p = let e : ◌≡◌ {A = ℕ} 4 3 = one_sort words 4 3 h (first_of words (tasks.Prepare what) p) in absurd (omega (arith, e))
is_finish words (tasks.Finish what) h p = (what, refl, p)

-- ---- what the second word says, and which of the five verbs stands first

pub ask_message : (words : List (List ℕ)) (what : Asked) → HasWord words 1 (codes "message") → IsAsked words what → (keys : List KeyFields) × (what ≡ asked.Message keys) × IsAsked words (asked.Message keys)
ask_message words (asked.Message keys) h p = (keys, refl, p)
ask_message words (asked.Setup kind) h p = absurd (apart words 1 (codes "message") (codes "setup") h p.0.thing_is refl)
ask_message words asked.Request h p = absurd (apart words 1 (codes "message") (codes "request") h p.thing_is refl)
ask_message words asked.Issue h p = absurd (apart words 1 (codes "message") (codes "issue") h p.thing_is refl)

pub ask_setup : (words : List (List ℕ)) (what : Asked) → HasWord words 1 (codes "setup") → IsAsked words what → (kind : SetupKind) × (what ≡ asked.Setup kind) × IsAsked words (asked.Setup kind)
ask_setup words (asked.Message keys) h p = absurd (apart words 1 (codes "setup") (codes "message") h p.thing_is refl)
ask_setup words (asked.Setup kind) h p = (kind, refl, p)
ask_setup words asked.Request h p = absurd (apart words 1 (codes "setup") (codes "request") h p.thing_is refl)
ask_setup words asked.Issue h p = absurd (apart words 1 (codes "setup") (codes "issue") h p.thing_is refl)

pub ask_request : (words : List (List ℕ)) (what : Asked) → HasWord words 1 (codes "request") → IsAsked words what → (what ≡ asked.Request) × IsAsked words asked.Request
ask_request words (asked.Message keys) h p = absurd (apart words 1 (codes "request") (codes "message") h p.thing_is refl)
ask_request words (asked.Setup kind) h p = absurd (apart words 1 (codes "request") (codes "setup") h p.0.thing_is refl)
ask_request words asked.Request h p = (refl, p)
ask_request words asked.Issue h p = absurd (apart words 1 (codes "request") (codes "issue") h p.thing_is refl)

pub ask_issue : (words : List (List ℕ)) (what : Asked) → HasWord words 1 (codes "issue") → IsAsked words what → (what ≡ asked.Issue) × IsAsked words asked.Issue
ask_issue words (asked.Message keys) h p = absurd (apart words 1 (codes "issue") (codes "message") h p.thing_is refl)
ask_issue words (asked.Setup kind) h p = absurd (apart words 1 (codes "issue") (codes "setup") h p.0.thing_is refl)
ask_issue words asked.Request h p = absurd (apart words 1 (codes "issue") (codes "request") h p.thing_is refl)
ask_issue words asked.Issue h p = (refl, p)

pub verify_message : (words : List (List ℕ)) (what : Verified) (answers : AnswersFields) → HasWord words 0 (codes "receive") → IsVerified words what answers → (kind : Kind) × (when : ℤ) × (last : Option ℤ) × (keys : List KeyFields) × (what ≡ verified.Message kind when last keys) × IsVerified words (verified.Message kind when last keys) answers
verify_message words (verified.Message kind when last keys) answers h p = (kind, when, last, keys, refl, p)
verify_message words (verified.Checks when key) answers h p = absurd (apart words 0 (codes "receive") (codes "explain") h p.0.verb_is refl)
verify_message words (verified.Setup kind when) answers h p = absurd (apart words 0 (codes "receive") (codes "setup") h p.0.verb_is refl)
verify_message words verified.Request answers h p = absurd (apart words 0 (codes "receive") (codes "request") h p.0.verb_is refl)
verify_message words verified.Issue answers h p = absurd (apart words 0 (codes "receive") (codes "issue") h p.0.verb_is refl)

pub verify_checks : (words : List (List ℕ)) (what : Verified) (answers : AnswersFields) → HasWord words 0 (codes "explain") → IsVerified words what answers → (when : ℤ) × (key : KeyFields) × (what ≡ verified.Checks when key) × IsVerified words (verified.Checks when key) answers
verify_checks words (verified.Message kind when last keys) answers h p = absurd (apart words 0 (codes "explain") (codes "receive") h p.verb_is refl)
verify_checks words (verified.Checks when key) answers h p = (when, key, refl, p)
verify_checks words (verified.Setup kind when) answers h p = absurd (apart words 0 (codes "explain") (codes "setup") h p.0.verb_is refl)
verify_checks words verified.Request answers h p = absurd (apart words 0 (codes "explain") (codes "request") h p.0.verb_is refl)
verify_checks words verified.Issue answers h p = absurd (apart words 0 (codes "explain") (codes "issue") h p.0.verb_is refl)

pub verify_setup : (words : List (List ℕ)) (what : Verified) (answers : AnswersFields) → HasWord words 0 (codes "setup") → IsVerified words what answers → (kind : SetupKind) × (when : ℤ) × (what ≡ verified.Setup kind when) × IsVerified words (verified.Setup kind when) answers
verify_setup words (verified.Message kind when last keys) answers h p = absurd (apart words 0 (codes "setup") (codes "receive") h p.verb_is refl)
verify_setup words (verified.Checks when key) answers h p = absurd (apart words 0 (codes "setup") (codes "explain") h p.0.verb_is refl)
verify_setup words (verified.Setup kind when) answers h p = (kind, when, refl, p)
verify_setup words verified.Request answers h p = absurd (apart words 0 (codes "setup") (codes "request") h p.0.verb_is refl)
verify_setup words verified.Issue answers h p = absurd (apart words 0 (codes "setup") (codes "issue") h p.0.verb_is refl)

pub verify_request : (words : List (List ℕ)) (what : Verified) (answers : AnswersFields) → HasWord words 0 (codes "request") → IsVerified words what answers → (what ≡ verified.Request) × IsVerified words verified.Request answers
verify_request words (verified.Message kind when last keys) answers h p = absurd (apart words 0 (codes "request") (codes "receive") h p.verb_is refl)
verify_request words (verified.Checks when key) answers h p = absurd (apart words 0 (codes "request") (codes "explain") h p.0.verb_is refl)
verify_request words (verified.Setup kind when) answers h p = absurd (apart words 0 (codes "request") (codes "setup") h p.0.verb_is refl)
verify_request words verified.Request answers h p = (refl, p)
verify_request words verified.Issue answers h p = absurd (apart words 0 (codes "request") (codes "issue") h p.0.verb_is refl)

pub verify_issue : (words : List (List ℕ)) (what : Verified) (answers : AnswersFields) → HasWord words 0 (codes "issue") → IsVerified words what answers → (what ≡ verified.Issue) × IsVerified words verified.Issue answers
verify_issue words (verified.Message kind when last keys) answers h p = absurd (apart words 0 (codes "issue") (codes "receive") h p.verb_is refl)
verify_issue words (verified.Checks when key) answers h p = absurd (apart words 0 (codes "issue") (codes "explain") h p.0.verb_is refl)
verify_issue words (verified.Setup kind when) answers h p = absurd (apart words 0 (codes "issue") (codes "setup") h p.0.verb_is refl)
verify_issue words verified.Request answers h p = absurd (apart words 0 (codes "issue") (codes "request") h p.0.verb_is refl)
verify_issue words verified.Issue answers h p = (refl, p)

pub prepare_message : (words : List (List ℕ)) (what : Prepared) → HasWord words 1 (codes "message") → IsPrepared words what → (kind : Kind) × (plan : Plan) × (what ≡ prepared.Message kind plan) × IsPrepared words (prepared.Message kind plan)
prepare_message words (prepared.Message kind plan) h p = (kind, plan, refl, p)
prepare_message words (prepared.Anchor validity key) h p = absurd (apart words 1 (codes "message") (codes "anchor") h p.0.thing_is refl)
prepare_message words (prepared.Request plan) h p = absurd (apart words 1 (codes "message") (codes "request") h p.0.thing_is refl)

pub prepare_anchor : (words : List (List ℕ)) (what : Prepared) → HasWord words 1 (codes "anchor") → IsPrepared words what → (validity : ValidityFields) × (key : KeyFields) × (what ≡ prepared.Anchor validity key) × IsPrepared words (prepared.Anchor validity key)
prepare_anchor words (prepared.Message kind plan) h p = absurd (apart words 1 (codes "anchor") (codes "message") h p.0.thing_is refl)
prepare_anchor words (prepared.Anchor validity key) h p = (validity, key, refl, p)
prepare_anchor words (prepared.Request plan) h p = absurd (apart words 1 (codes "anchor") (codes "request") h p.0.thing_is refl)

pub prepare_request : (words : List (List ℕ)) (what : Prepared) → HasWord words 1 (codes "request") → IsPrepared words what → (plan : RequestPlan) × (what ≡ prepared.Request plan) × IsPrepared words (prepared.Request plan)
prepare_request words (prepared.Message kind plan) h p = absurd (apart words 1 (codes "request") (codes "message") h p.0.thing_is refl)
prepare_request words (prepared.Anchor validity key) h p = absurd (apart words 1 (codes "request") (codes "anchor") h p.0.thing_is refl)
prepare_request words (prepared.Request plan) h p = (plan, refl, p)

pub finish_message : (words : List (List ℕ)) (what : Finished) → HasWord words 1 (codes "message") → IsFinished words what → (kind : Kind) × (plan : Plan) × (signatures : Signatures) × (what ≡ finished.Message kind plan signatures) × IsFinished words (finished.Message kind plan signatures)
finish_message words (finished.Message kind plan signatures) h p = (kind, plan, signatures, refl, p)
finish_message words (finished.Anchor validity key signature) h p = absurd (apart words 1 (codes "message") (codes "anchor") h p.0.thing_is refl)
finish_message words (finished.Request plan signature) h p = absurd (apart words 1 (codes "message") (codes "request") h p.0.thing_is refl)

pub finish_anchor : (words : List (List ℕ)) (what : Finished) → HasWord words 1 (codes "anchor") → IsFinished words what → (validity : ValidityFields) × (key : KeyFields) × (signature : List ℕ) × (what ≡ finished.Anchor validity key signature) × IsFinished words (finished.Anchor validity key signature)
finish_anchor words (finished.Message kind plan signatures) h p = absurd (apart words 1 (codes "anchor") (codes "message") h p.0.thing_is refl)
finish_anchor words (finished.Anchor validity key signature) h p = (validity, key, signature, refl, p)
finish_anchor words (finished.Request plan signature) h p = absurd (apart words 1 (codes "anchor") (codes "request") h p.0.thing_is refl)

pub finish_request : (words : List (List ℕ)) (what : Finished) → HasWord words 1 (codes "request") → IsFinished words what → (plan : RequestPlan) × (signature : List ℕ) × (what ≡ finished.Request plan signature) × IsFinished words (finished.Request plan signature)
finish_request words (finished.Message kind plan signatures) h p = absurd (apart words 1 (codes "request") (codes "message") h p.0.thing_is refl)
finish_request words (finished.Anchor validity key signature) h p = absurd (apart words 1 (codes "request") (codes "anchor") h p.0.thing_is refl)
finish_request words (finished.Request plan signature) h p = (plan, signature, refl, p)

-- ---- one task

one_asked : (words : List (List ℕ)) (one other : Asked) → IsAsked words one → IsAsked words other → one ≡ other
one_asked words (asked.Message keys) other p q =
    let m = ask_message words other p.thing_is q in
    let same_keys : keys ≡ m.0 = one_list words 2 keys m.0 p.keys_are m.2.keys_are in
    ap (λ (keys : List KeyFields). asked.Message keys) same_keys ∙ sym m.1
one_asked words (asked.Setup kind) other p q =
    let m = ask_setup words other p.0.thing_is q in
    let same_kind : kind ≡ m.0 = same_some kind m.0 (sym p.1 ∙ m.2.1) in
    ap (λ (kind : SetupKind). asked.Setup kind) same_kind ∙ sym m.1
one_asked words asked.Request other p q = sym (ask_request words other p.thing_is q).0
one_asked words asked.Issue other p q = sym (ask_issue words other p.thing_is q).0

one_verified : (words : List (List ℕ)) (one other : Verified) (x y : AnswersFields) → IsVerified words one x → IsVerified words other y → one ≡ other
one_verified words (verified.Message kind when last keys) other x y p q =
    let m = verify_message words other y p.verb_is q in
    let same_kind : kind ≡ m.0 = same_some kind m.0 (sym p.kind_is ∙ m.5.kind_is) in
    let same_when : when ≡ m.1 = one_moment_at words 2 when m.1 p.moment m.5.moment in
    let same_last : last ≡ m.2 = one_last words 3 last m.2 p.last_is m.5.last_is in
    let same_keys : keys ≡ m.3 = one_list words 6 keys m.3 p.keys_are m.5.keys_are in
    let same : verified.Message kind when last keys ≡ verified.Message m.0 m.1 m.2 m.3 = rw (same_kind, same_when, same_last, same_keys) refl in
    same ∙ sym m.4
one_verified words (verified.Checks when key) other x y p q =
    let m = verify_checks words other y p.0.verb_is q in
    let same_when : when ≡ m.0 = one_moment_at words 1 when m.0 p.1 m.3.1 in
    let same_key : key ≡ m.1 = same_some key m.1 (sym p.3 ∙ m.3.3) in
    let same : verified.Checks when key ≡ verified.Checks m.0 m.1 = rw (same_when, same_key) refl in
    same ∙ sym m.2
one_verified words (verified.Setup kind when) other x y p q =
    let m = verify_setup words other y p.0.verb_is q in
    let same_kind : kind ≡ m.0 = same_some kind m.0 (sym p.1 ∙ m.3.1) in
    let same_when : when ≡ m.1 = one_moment_at words 2 when m.1 p.2 m.3.2 in
    let same : verified.Setup kind when ≡ verified.Setup m.0 m.1 = rw (same_kind, same_when) refl in
    same ∙ sym m.2
one_verified words verified.Request other x y p q = sym (verify_request words other y p.0.verb_is q).0
one_verified words verified.Issue other x y p q = sym (verify_issue words other y p.0.verb_is q).0

one_prepared : (words : List (List ℕ)) (one other : Prepared) → IsPrepared words one → IsPrepared words other → one ≡ other
one_prepared words (prepared.Message kind plan) other p q =
    let m = prepare_message words other p.0.thing_is q in
    let same_kind : kind ≡ m.0 = same_some kind m.0 (sym p.1 ∙ m.3.1) in
    let same_plan : plan ≡ m.1 = one_plan words 3 plan m.1 p.2 m.3.2 in
    let same : prepared.Message kind plan ≡ prepared.Message m.0 m.1 = rw (same_kind, same_plan) refl in
    same ∙ sym m.2
one_prepared words (prepared.Anchor validity key) other p q =
    let m = prepare_anchor words other p.0.thing_is q in
    let same_validity : validity ≡ m.0 = one_validity words 2 validity m.0 p.1 m.3.1 in
    let same_key : key ≡ m.1 = same_some key m.1 (sym p.2 ∙ m.3.2) in
    let same : prepared.Anchor validity key ≡ prepared.Anchor m.0 m.1 = rw (same_validity, same_key) refl in
    same ∙ sym m.2
one_prepared words (prepared.Request plan) other p q =
    let m = prepare_request words other p.0.thing_is q in
    let same_plan : plan ≡ m.0 = one_request_plan words 2 plan m.0 p.1 m.2.1 in
    ap (λ (plan : RequestPlan). prepared.Request plan) same_plan ∙ sym m.1

one_finished : (words : List (List ℕ)) (one other : Finished) → IsFinished words one → IsFinished words other → one ≡ other
one_finished words (finished.Message kind plan signatures) other p q =
    let m = finish_message words other p.0.thing_is q in
    let same_kind : kind ≡ m.0 = same_some kind m.0 (sym p.1 ∙ m.4.1) in
    let same_plan : plan ≡ m.1 = one_plan words 3 plan m.1 p.2 m.4.2 in
    let same_signatures : signatures ≡ m.2 = one_signing words 7 signatures m.2 p.3 m.4.3 in
    let same : finished.Message kind plan signatures ≡ finished.Message m.0 m.1 m.2 = rw (same_kind, same_plan, same_signatures) refl in
    same ∙ sym m.3
one_finished words (finished.Anchor validity key signature) other p q =
    let m = finish_anchor words other p.0.thing_is q in
    let same_validity : validity ≡ m.0 = one_validity words 2 validity m.0 p.1 m.4.1 in
    let same_key : key ≡ m.1 = same_some key m.1 (sym p.2 ∙ m.4.2) in
    let same_signature : signature ≡ m.2 = one_named words 5 (codes "anchor") signature m.2 p.3 m.4.3 in
    let same : finished.Anchor validity key signature ≡ finished.Anchor m.0 m.1 m.2 = rw (same_validity, same_key, same_signature) refl in
    same ∙ sym m.3
one_finished words (finished.Request plan signature) other p q =
    let m = finish_request words other p.0.thing_is q in
    let same_plan : plan ≡ m.0 = one_request_plan words 2 plan m.0 p.1 m.3.1 in
    let same_signature : signature ≡ m.1 = one_named words 6 (codes "request") signature m.1 p.2 m.3.2 in
    let same : finished.Request plan signature ≡ finished.Request m.0 m.1 = rw (same_plan, same_signature) refl in
    same ∙ sym m.2

-- where the answers stand, by the first word
answers_asked : (words : List (List ℕ)) (one other : Verified) (x y : AnswersFields) → IsVerified words one x → IsVerified words other y → x ≡ y
answers_asked words (verified.Message kind when last keys) other x y p q = one_answers words 4 x y p.answers_are (verify_message words other y p.verb_is q).5.answers_are
answers_asked words (verified.Checks when key) other x y p q = one_answers words 2 x y p.2 (verify_checks words other y p.0.verb_is q).3.2
answers_asked words (verified.Setup kind when) other x y p q = one_answers words 3 x y p.3 (verify_setup words other y p.0.verb_is q).3.3
answers_asked words verified.Request other x y p q = one_answers words 1 x y p.1 (verify_request words other y p.0.verb_is q).1.1
answers_asked words verified.Issue other x y p q = one_answers words 1 x y p.1 (verify_issue words other y p.0.verb_is q).1.1

same_verify : (a b : Verified) (x y : AnswersFields) → a ≡ b → x ≡ y → tasks.Verify a x ≡ tasks.Verify b y
same_verify a b x y e f = rw (e, f) refl

pub one_task : (words : List (List ℕ)) (one other : Task) → IsKeysTask words one → IsKeysTask words other → one ≡ other
one_task words (tasks.Ask what) other p q =
    let m = is_ask words other (asked_first words what p) q in
    ap (λ (w : Asked). tasks.Ask w) (one_asked words what m.0 p m.2) ∙ sym m.1
one_task words (tasks.Verify what answers) other p q =
    let m = is_verify words other (verified_first words what answers p) q in
    let same_what : what ≡ m.0 = one_verified words what m.0 answers m.1 p m.3 in
    let same_answers : answers ≡ m.1 = answers_asked words what m.0 answers m.1 p m.3 in
    same_verify what m.0 answers m.1 same_what same_answers ∙ sym m.2
one_task words tasks.Inspect other p q = sym (is_inspect words other (first_of words tasks.Inspect p) q).0
one_task words (tasks.Prepare what) other p q =
    let m = is_prepare words other (prepared_first words what p) q in
    ap (λ (w : Prepared). tasks.Prepare w) (one_prepared words what m.0 p m.2) ∙ sym m.1
one_task words (tasks.Finish what) other p q =
    let m = is_finish words other (finished_first words what p) q in
    ap (λ (w : Finished). tasks.Finish w) (one_finished words what m.0 p m.2) ∙ sym m.1

-- ---- a task has few keys

few_listed : (words : List (List ℕ)) (index : ℕ) (keys : List KeyFields) → AreFewKeys words index keys → (1 ≤ length keys) × (length keys ≤ 8)
few_listed words index keys few =
    let n : length (drop index words) ≡ length keys = same_count key_of_word (λ (k : KeyFields). Some k) (drop index words) keys few.spell in
    (omega (arith, n, few.some), omega (arith, n, few.few))

pub has_few : (words : List (List ℕ)) (task : Task) → IsKeysTask words task → HasFewKeys task
has_few words (tasks.Ask (asked.Message keys)) p = few_listed words 2 keys p.keys_are
has_few words (tasks.Ask (asked.Setup kind)) p = tt
has_few words (tasks.Ask asked.Request) p = tt
has_few words (tasks.Ask asked.Issue) p = tt
has_few words (tasks.Verify (verified.Message kind when last keys) answers) p = few_listed words 6 keys p.keys_are
has_few words (tasks.Verify (verified.Checks when key) answers) p = tt
has_few words (tasks.Verify (verified.Setup kind when) answers) p = tt
has_few words (tasks.Verify verified.Request answers) p = tt
has_few words (tasks.Verify verified.Issue answers) p = tt
has_few words tasks.Inspect p = tt
has_few words (tasks.Prepare what) p = tt
has_few words (tasks.Finish what) p = tt
