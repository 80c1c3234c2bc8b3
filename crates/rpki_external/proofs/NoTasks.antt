-- Words that ask for nothing.
use Rattle.std.proofs.Common.{◌≡◌, ℕ, ℤ, Option, Some, List, codes, length}
use Rattle.rpki_base.specs.PublicKey.{KeyFields}
use Rattle.rpki_base.specs.Validity.{ValidityFields}
use Rattle.rpki_ca.specs.Command.{setup_kind_at}
use Rattle.rpki_ca.specs.declared.receiving.Kind.{Kind}
use Rattle.rpki_ca.specs.declared.setup_message.SetupKind.{SetupKind}
use Rattle.rpki_external.specs.Answers.{AnswersFields}
use Rattle.rpki_external.specs.Words.{AreAnswersAt, AreFewKeys, HasWord, IsAnsweredReceive, IsAsked, IsFinished, IsNoKeysTask, IsPrepared, IsVerified}
use Rattle.rpki_external.specs.declared.preparing.Plan.{Plan}
use Rattle.rpki_external.specs.declared.preparing.Signatures.{Signatures}
use Rattle.rpki_external.specs.declared.preparing_requests.RequestPlan.{RequestPlan}
use Rattle.rpki_external.specs.declared.task.Asked.{Asked}
use Rattle.rpki_external.specs.declared.task.Asked.TheVariants as asked
use Rattle.rpki_external.specs.declared.task.Finished.{Finished}
use Rattle.rpki_external.specs.declared.task.Finished.TheVariants as finished
use Rattle.rpki_external.specs.declared.task.Prepared.{Prepared}
use Rattle.rpki_external.specs.declared.task.Prepared.TheVariants as prepared
use Rattle.rpki_external.specs.declared.task.Verified.{Verified}
use Rattle.rpki_external.specs.declared.task.Verified.TheVariants as verified
use Rattle.rpki_external.specs.declared.task.Task.TheVariants as tasks
use Rattle.rpki_external.proofs.Tasks.{ask_issue, ask_message, ask_request, ask_setup, asks_for, finish_anchor, finish_message, finish_request, is_ask, is_finish, is_inspect, is_prepare, is_verify, prepare_anchor, prepare_message, prepare_request, verify_checks, verify_issue, verify_message, verify_request, verify_setup}

-- ---- `questions`

pub no_questions : (words : List (List ℕ)) → HasWord words 0 (codes "questions") → ((what : Asked) → IsAsked words what → ⊥) → IsNoKeysTask words
no_questions words h none task p = let m = is_ask words task (asks_for words (codes "questions") h) p in none m.0 m.2

pub no_message_asked : (words : List (List ℕ)) → HasWord words 1 (codes "message") → ((keys : List KeyFields) → AreFewKeys words 2 keys → ⊥) → (what : Asked) → IsAsked words what → ⊥
no_message_asked words h none what p = let m = ask_message words what h p in none m.0 m.2.keys_are

pub no_setup_asked : (words : List (List ℕ)) → HasWord words 1 (codes "setup") → ((kind : SetupKind) → length words ≡ 3 → setup_kind_at words 2 ≡ Some kind → ⊥) → (what : Asked) → IsAsked words what → ⊥
no_setup_asked words h none what p = let m = ask_setup words what h p in none m.0 m.2.0.count_is m.2.1

pub no_request_asked : (words : List (List ℕ)) → HasWord words 1 (codes "request") → (length words ≡ 2 → ⊥) → (what : Asked) → IsAsked words what → ⊥
no_request_asked words h none what p = none (ask_request words what h p).1.count_is

pub no_issue_asked : (words : List (List ℕ)) → HasWord words 1 (codes "issue") → (length words ≡ 2 → ⊥) → (what : Asked) → IsAsked words what → ⊥
no_issue_asked words h none what p = none (ask_issue words what h p).1.count_is

pub no_asked : (words : List (List ℕ)) → (HasWord words 1 (codes "message") → ⊥) → (HasWord words 1 (codes "setup") → ⊥) → (HasWord words 1 (codes "request") → ⊥) → (HasWord words 1 (codes "issue") → ⊥) → (what : Asked) → IsAsked words what → ⊥
no_asked words message setup request issue (asked.Message keys) p = message p.thing_is
no_asked words message setup request issue (asked.Setup kind) p = setup p.0.thing_is
no_asked words message setup request issue asked.Request p = request p.thing_is
no_asked words message setup request issue asked.Issue p = issue p.thing_is

-- ---- what is verified

pub no_receive : (words : List (List ℕ)) → HasWord words 0 (codes "receive") → ((kind : Kind) (when : ℤ) (last : Option ℤ) (answers : AnswersFields) (keys : List KeyFields) → IsAnsweredReceive words kind when last answers keys → ⊥) → IsNoKeysTask words
no_receive words h none task p =
    let m = is_verify words task (asks_for words (codes "receive") h) p in
    let r = verify_message words m.0 m.1 h m.3 in
    none r.0 r.1 r.2 m.1 r.3 r.5

pub no_explain : (words : List (List ℕ)) → HasWord words 0 (codes "explain") → ((when : ℤ) (key : KeyFields) (answers : AnswersFields) → IsVerified words (verified.Checks when key) answers → ⊥) → IsNoKeysTask words
no_explain words h none task p =
    let m = is_verify words task (asks_for words (codes "explain") h) p in
    let r = verify_checks words m.0 m.1 h m.3 in
    none r.0 r.1 m.1 r.3

pub no_setup : (words : List (List ℕ)) → HasWord words 0 (codes "setup") → ((kind : SetupKind) (when : ℤ) (answers : AnswersFields) → IsVerified words (verified.Setup kind when) answers → ⊥) → IsNoKeysTask words
no_setup words h none task p =
    let m = is_verify words task (asks_for words (codes "setup") h) p in
    let r = verify_setup words m.0 m.1 h m.3 in
    none r.0 r.1 m.1 r.3

pub no_request : (words : List (List ℕ)) → HasWord words 0 (codes "request") → ((answers : AnswersFields) → length words ≡ 3 → AreAnswersAt words 1 answers → ⊥) → IsNoKeysTask words
no_request words h none task p =
    let m = is_verify words task (asks_for words (codes "request") h) p in
    let r = verify_request words m.0 m.1 h m.3 in
    none m.1 r.1.0.count_is r.1.1

pub no_issue : (words : List (List ℕ)) → HasWord words 0 (codes "issue") → ((answers : AnswersFields) → length words ≡ 3 → AreAnswersAt words 1 answers → ⊥) → IsNoKeysTask words
no_issue words h none task p =
    let m = is_verify words task (asks_for words (codes "issue") h) p in
    let r = verify_issue words m.0 m.1 h m.3 in
    none m.1 r.1.0.count_is r.1.1

-- ---- `inspect`

pub no_inspect : (words : List (List ℕ)) → HasWord words 0 (codes "inspect") → (length words ≡ 1 → ⊥) → IsNoKeysTask words
no_inspect words h none task p = none (is_inspect words task (asks_for words (codes "inspect") h) p).1

-- ---- `prepare`

pub no_prepare : (words : List (List ℕ)) → HasWord words 0 (codes "prepare") → ((what : Prepared) → IsPrepared words what → ⊥) → IsNoKeysTask words
no_prepare words h none task p = let m = is_prepare words task (asks_for words (codes "prepare") h) p in none m.0 m.2

pub no_message_prepared : (words : List (List ℕ)) → HasWord words 1 (codes "message") → ((kind : Kind) (plan : Plan) → IsPrepared words (prepared.Message kind plan) → ⊥) → (what : Prepared) → IsPrepared words what → ⊥
no_message_prepared words h none what p = let m = prepare_message words what h p in none m.0 m.1 m.3

pub no_anchor_prepared : (words : List (List ℕ)) → HasWord words 1 (codes "anchor") → ((validity : ValidityFields) (key : KeyFields) → IsPrepared words (prepared.Anchor validity key) → ⊥) → (what : Prepared) → IsPrepared words what → ⊥
no_anchor_prepared words h none what p = let m = prepare_anchor words what h p in none m.0 m.1 m.3

pub no_request_prepared : (words : List (List ℕ)) → HasWord words 1 (codes "request") → ((plan : RequestPlan) → IsPrepared words (prepared.Request plan) → ⊥) → (what : Prepared) → IsPrepared words what → ⊥
no_request_prepared words h none what p = let m = prepare_request words what h p in none m.0 m.2

pub no_prepared : (words : List (List ℕ)) → (HasWord words 1 (codes "message") → ⊥) → (HasWord words 1 (codes "anchor") → ⊥) → (HasWord words 1 (codes "request") → ⊥) → (what : Prepared) → IsPrepared words what → ⊥
no_prepared words message anchor request (prepared.Message kind plan) p = message p.0.thing_is
no_prepared words message anchor request (prepared.Anchor validity key) p = anchor p.0.thing_is
no_prepared words message anchor request (prepared.Request plan) p = request p.0.thing_is

-- ---- `finish`

pub no_finish : (words : List (List ℕ)) → HasWord words 0 (codes "finish") → ((what : Finished) → IsFinished words what → ⊥) → IsNoKeysTask words
no_finish words h none task p = let m = is_finish words task (asks_for words (codes "finish") h) p in none m.0 m.2

pub no_message_finished : (words : List (List ℕ)) → HasWord words 1 (codes "message") → ((kind : Kind) (plan : Plan) (signatures : Signatures) → IsFinished words (finished.Message kind plan signatures) → ⊥) → (what : Finished) → IsFinished words what → ⊥
no_message_finished words h none what p = let m = finish_message words what h p in none m.0 m.1 m.2 m.4

pub no_anchor_finished : (words : List (List ℕ)) → HasWord words 1 (codes "anchor") → ((validity : ValidityFields) (key : KeyFields) (signature : List ℕ) → IsFinished words (finished.Anchor validity key signature) → ⊥) → (what : Finished) → IsFinished words what → ⊥
no_anchor_finished words h none what p = let m = finish_anchor words what h p in none m.0 m.1 m.2 m.4

pub no_request_finished : (words : List (List ℕ)) → HasWord words 1 (codes "request") → ((plan : RequestPlan) (signature : List ℕ) → IsFinished words (finished.Request plan signature) → ⊥) → (what : Finished) → IsFinished words what → ⊥
no_request_finished words h none what p = let m = finish_request words what h p in none m.0 m.1 m.3

pub no_finished : (words : List (List ℕ)) → (HasWord words 1 (codes "message") → ⊥) → (HasWord words 1 (codes "anchor") → ⊥) → (HasWord words 1 (codes "request") → ⊥) → (what : Finished) → IsFinished words what → ⊥
no_finished words message anchor request (finished.Message kind plan signatures) p = message p.0.thing_is
no_finished words message anchor request (finished.Anchor validity key signature) p = anchor p.0.thing_is
no_finished words message anchor request (finished.Request plan signature) p = request p.0.thing_is

-- ---- no first word of a task

-- the first word is none of those of tasks
pub record IsNoVerb (words : List (List ℕ)) : Type 0 where
  pub questions : HasWord words 0 (codes "questions") → ⊥
  pub receive : HasWord words 0 (codes "receive") → ⊥
  pub explain : HasWord words 0 (codes "explain") → ⊥
  pub setup : HasWord words 0 (codes "setup") → ⊥
  pub request : HasWord words 0 (codes "request") → ⊥
  pub issue : HasWord words 0 (codes "issue") → ⊥
  pub inspect : HasWord words 0 (codes "inspect") → ⊥
  pub prepare : HasWord words 0 (codes "prepare") → ⊥
  pub finish : HasWord words 0 (codes "finish") → ⊥

not_asked : (words : List (List ℕ)) → IsNoVerb words → (what : Asked) → IsAsked words what → ⊥
not_asked words none (asked.Message keys) p = none.questions p.verb_is
not_asked words none (asked.Setup kind) p = none.questions p.0.verb_is
not_asked words none asked.Request p = none.questions p.verb_is
not_asked words none asked.Issue p = none.questions p.verb_is

not_verified : (words : List (List ℕ)) → IsNoVerb words → (what : Verified) (answers : AnswersFields) → IsVerified words what answers → ⊥
not_verified words none (verified.Message kind when last keys) answers p = none.receive p.verb_is
not_verified words none (verified.Checks when key) answers p = none.explain p.0.verb_is
not_verified words none (verified.Setup kind when) answers p = none.setup p.0.verb_is
not_verified words none verified.Request answers p = none.request p.0.verb_is
not_verified words none verified.Issue answers p = none.issue p.0.verb_is

not_prepared : (words : List (List ℕ)) → IsNoVerb words → (what : Prepared) → IsPrepared words what → ⊥
not_prepared words none (prepared.Message kind plan) p = none.prepare p.0.verb_is
not_prepared words none (prepared.Anchor validity key) p = none.prepare p.0.verb_is
not_prepared words none (prepared.Request plan) p = none.prepare p.0.verb_is

not_finished : (words : List (List ℕ)) → IsNoVerb words → (what : Finished) → IsFinished words what → ⊥
not_finished words none (finished.Message kind plan signatures) p = none.finish p.0.verb_is
not_finished words none (finished.Anchor validity key signature) p = none.finish p.0.verb_is
not_finished words none (finished.Request plan signature) p = none.finish p.0.verb_is

pub no_verb : (words : List (List ℕ)) → IsNoVerb words → IsNoKeysTask words
no_verb words none (tasks.Ask what) p = not_asked words none what p
no_verb words none (tasks.Verify what answers) p = not_verified words none what answers p
no_verb words none tasks.Inspect p = none.inspect p.verb_is
no_verb words none (tasks.Prepare what) p = not_prepared words none what p
no_verb words none (tasks.Finish what) p = not_finished words none what p
