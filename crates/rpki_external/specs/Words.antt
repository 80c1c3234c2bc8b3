-- What the words of a command line ask for. A word's index counts from 0.
use Rattle.std.specs.Prelude.{◌≡◌, ◌+◌, ◌≤◌, ◌<◌, ℕ, ℤ, Option, None, Some, List, ◌++◌, length, map, codes, drop, slice_get, slice_index_or, ⊤}
use Rattle.std.specs.Result.{result_ok}
use Rattle.rpki_common.specs.Limits.{most_keys}
use Rattle.hex.specs.Hex.{decode_of}
use Rattle.rpki_base.specs.PublicKey.{KeyFields}
use Rattle.rpki_base.specs.Validity.{ValidityFields}
use Rattle.rpki_text.specs.Hash.{digest_of_text}
use Rattle.rpki_text.specs.Uri.{rsync, https, fault_of}
use Rattle.rpki_ca.specs.Command.{AreKeys, kind_at, setup_kind_at}
use Rattle.rpki_ca.specs.Lines.{digit_of}
use Rattle.rpki_ca.specs.Words.{IsMomentAt, key_at}
use Rattle.rpki_ca.specs.declared.receiving.Kind.{Kind}
use Rattle.rpki_external.specs.declared.preparing.Plan.{Plan}
use Rattle.rpki_external.specs.declared.preparing.Signatures.{Signatures}
use Rattle.rpki_external.specs.declared.preparing_requests.RequestPlan.{RequestPlan}
use Rattle.rpki_external.specs.declared.task.Asked.{Asked}
use Rattle.rpki_external.specs.declared.task.Asked.TheVariants as asked
use Rattle.rpki_external.specs.declared.task.Finished.{Finished}
use Rattle.rpki_external.specs.declared.task.Finished.TheVariants as finished
use Rattle.rpki_external.specs.declared.task.Prepared.{Prepared}
use Rattle.rpki_external.specs.declared.task.Prepared.TheVariants as prepared
use Rattle.rpki_external.specs.declared.task.Verified.{Verified}
use Rattle.rpki_external.specs.declared.task.Verified.TheVariants as verified
use Rattle.rpki_external.specs.declared.task.Task.{Task}
use Rattle.rpki_external.specs.declared.task.Task.TheVariants as tasks
use Rattle.rpki_external.specs.Answers.{AnswersFields}

-- ---- single words

-- the word at the index is this
abbrev pub HasWord : List (List ℕ) → ℕ → List ℕ → Type 0
HasWord words index word = slice_get words index ≡ Some word

-- from the index on there are one to eight words, each of which spells the key at its place
pub record AreFewKeys (words : List (List ℕ)) (index : ℕ) (keys : List KeyFields) : Type 0 where
  pub some : 1 ≤ length (drop index words)
  pub few : length (drop index words) ≤ most_keys
  pub spell : AreKeys (drop index words) keys

-- the word at the index spells these octets, two hexadecimal digits of either case an octet
pub record SpellsAt (words : List (List ℕ)) (index : ℕ) (octets : List ℕ) : Type 0 where
  pub word : List ℕ
  pub stands : HasWord words index word
  pub spells : result_ok (decode_of word) ≡ Some octets

-- the word at the index is a name, an equals sign, and the octets in hexadecimal digits of either
-- case
pub record SpellsNamed (words : List (List ℕ)) (index : ℕ) (name octets : List ℕ) : Type 0 where
  pub digits : List ℕ
  pub stands : HasWord words index (name ++ codes "=" ++ digits)
  pub spells : result_ok (decode_of digits) ≡ Some octets

-- twenty octets, of which the first bit is 0 (RFC 5280, 4.1.2.2); they may all be 0
pub record IsSerial (octets : List ℕ) : Type 0 where
  pub twenty : length octets ≡ 20
  pub positive : slice_index_or octets 0 0 < 128

-- the word at the index is a hyphen, for none, or the moment's
abbrev pub IsLastAt : List (List ℕ) → ℕ → Option ℤ → Type 0
IsLastAt words index None = HasWord words index (codes "-")
IsLastAt words index (Some last) = IsMomentAt words index last

-- the word at the index is a digest in 64 hexadecimal digits of either case, and the next one has a
-- digit for each answer, 1 for yes and 0 for no
pub record AreAnswersAt (words : List (List ℕ)) (index : ℕ) (answers : AnswersFields) : Type 0 where
  pub word : List ℕ
  pub stands : HasWord words index word
  pub digest : digest_of_text word ≡ Some answers.digest
  pub values : HasWord words (index + 1) (map digit_of answers.values)

-- ---- what is asked for, behind the first words

-- from the index on: a moment, a serial number, the issuing key and the key for one use
pub record IsPlan (words : List (List ℕ)) (index : ℕ) (p : Plan) : Type 0 where
  pub moment : IsMomentAt words index p.when
  pub serial : SpellsAt words (index + 1) p.serial
  pub serial_is : IsSerial p.serial
  pub issuing_key : key_at words (index + 2) ≡ Some p.issuing_key
  pub key : key_at words (index + 3) ≡ Some p.key

-- from the index on: the signatures of attributes, CRL and certificate, each with its name
pub record AreSignatureWords (words : List (List ℕ)) (index : ℕ) (s : Signatures) : Type 0 where
  pub attributes : SpellsNamed words index (codes "attributes") s.attributes
  pub crl : SpellsNamed words (index + 1) (codes "crl") s.crl
  pub certificate : SpellsNamed words (index + 2) (codes "certificate") s.certificate

-- from the index on: the first and the last second of a validity
pub record IsValidityAt (words : List (List ℕ)) (index : ℕ) (v : ValidityFields) : Type 0 where
  pub not_before : IsMomentAt words index v.not_before
  pub not_after : IsMomentAt words (index + 1) v.not_after

-- the word at the index is a hyphen, for none, or the URI
abbrev pub IsNotifyAt : List (List ℕ) → ℕ → Option (List ℕ) → Type 0
IsNotifyAt words index None = HasWord words index (codes "-")
IsNotifyAt words index (Some uri) = HasWord words index uri × (fault_of https uri ≡ None)

-- from the index on: a key, and the lawful URIs of its repository, its manifest and its
-- notifications
pub record IsRequestPlan (words : List (List ℕ)) (index : ℕ) (p : RequestPlan) : Type 0 where
  pub key : key_at words index ≡ Some p.key
  pub ca_repository : HasWord words (index + 1) p.ca_repository
  pub repository_is : fault_of rsync p.ca_repository ≡ None
  pub rpki_manifest : HasWord words (index + 2) p.rpki_manifest
  pub manifest_is : fault_of rsync p.rpki_manifest ≡ None
  pub rpki_notify : IsNotifyAt words (index + 3) p.rpki_notify

-- ---- the commands

-- there are so many words, of which the first is this
pub record IsOneWord (words : List (List ℕ)) (count : ℕ) (verb : List ℕ) : Type 0 where
  pub count_is : length words ≡ count
  pub verb_is : HasWord words 0 verb

-- there are so many words, of which the first two are these
pub record AreTwoWords (words : List (List ℕ)) (count : ℕ) (verb thing : List ℕ) : Type 0 where
  pub count_is : length words ≡ count
  pub verb_is : HasWord words 0 verb
  pub thing_is : HasWord words 1 thing

-- `questions message`, and keys
pub record IsMessageQuestions (words : List (List ℕ)) (keys : List KeyFields) : Type 0 where
  pub verb_is : HasWord words 0 (codes "questions")
  pub thing_is : HasWord words 1 (codes "message")
  pub keys_are : AreFewKeys words 2 keys

-- `receive`, the kind, a moment, a last time, answers, and keys
pub record IsAnsweredReceive (words : List (List ℕ)) (kind : Kind) (when : ℤ) (last : Option ℤ)
    (answers : AnswersFields) (keys : List KeyFields) : Type 0 where
  pub verb_is : HasWord words 0 (codes "receive")
  pub kind_is : kind_at words 1 ≡ Some kind
  pub moment : IsMomentAt words 2 when
  pub last_is : IsLastAt words 3 last
  pub answers_are : AreAnswersAt words 4 answers
  pub keys_are : AreFewKeys words 6 keys

-- `questions` of this
abbrev pub IsAsked : List (List ℕ) → Asked → Type 0
IsAsked words (asked.Message keys) = IsMessageQuestions words keys
IsAsked words (asked.Setup kind) =
    AreTwoWords words 3 (codes "questions") (codes "setup") × (setup_kind_at words 2 ≡ Some kind)
IsAsked words asked.Request = AreTwoWords words 2 (codes "questions") (codes "request")
IsAsked words asked.Issue = AreTwoWords words 2 (codes "questions") (codes "issue")

-- `receive`, `explain`, `setup`, `request` or `issue`, with answers
abbrev pub IsVerified : List (List ℕ) → Verified → AnswersFields → Type 0
IsVerified words (verified.Message kind when last keys) answers =
    IsAnsweredReceive words kind when last answers keys
IsVerified words (verified.Checks when key) answers =
    IsOneWord words 5 (codes "explain") × IsMomentAt words 1 when × AreAnswersAt words 2 answers
    × (key_at words 4 ≡ Some key)
IsVerified words (verified.Setup kind when) answers =
    IsOneWord words 5 (codes "setup") × (setup_kind_at words 1 ≡ Some kind)
    × IsMomentAt words 2 when × AreAnswersAt words 3 answers
IsVerified words verified.Request answers =
    IsOneWord words 3 (codes "request") × AreAnswersAt words 1 answers
IsVerified words verified.Issue answers =
    IsOneWord words 3 (codes "issue") × AreAnswersAt words 1 answers

-- `prepare` this
abbrev pub IsPrepared : List (List ℕ) → Prepared → Type 0
IsPrepared words (prepared.Message kind plan) =
    AreTwoWords words 7 (codes "prepare") (codes "message") × (kind_at words 2 ≡ Some kind)
    × IsPlan words 3 plan
IsPrepared words (prepared.Anchor validity key) =
    AreTwoWords words 5 (codes "prepare") (codes "anchor") × IsValidityAt words 2 validity
    × (key_at words 4 ≡ Some key)
IsPrepared words (prepared.Request plan) =
    AreTwoWords words 6 (codes "prepare") (codes "request") × IsRequestPlan words 2 plan

-- `finish` this
abbrev pub IsFinished : List (List ℕ) → Finished → Type 0
IsFinished words (finished.Message kind plan signatures) =
    AreTwoWords words 10 (codes "finish") (codes "message") × (kind_at words 2 ≡ Some kind)
    × IsPlan words 3 plan × AreSignatureWords words 7 signatures
IsFinished words (finished.Anchor validity key signature) =
    AreTwoWords words 6 (codes "finish") (codes "anchor") × IsValidityAt words 2 validity
    × (key_at words 4 ≡ Some key) × SpellsNamed words 5 (codes "anchor") signature
IsFinished words (finished.Request plan signature) =
    AreTwoWords words 7 (codes "finish") (codes "request") × IsRequestPlan words 2 plan
    × SpellsNamed words 6 (codes "request") signature

-- the words ask for the task
abbrev pub IsKeysTask : List (List ℕ) → Task → Type 0
IsKeysTask words (tasks.Ask what) = IsAsked words what
IsKeysTask words (tasks.Verify what answers) = IsVerified words what answers
IsKeysTask words tasks.Inspect = IsOneWord words 1 (codes "inspect")
IsKeysTask words (tasks.Prepare what) = IsPrepared words what
IsKeysTask words (tasks.Finish what) = IsFinished words what

-- the words ask for nothing
abbrev pub IsNoKeysTask : List (List ℕ) → Type 0
IsNoKeysTask words = (task : Task) → IsKeysTask words task → ⊥

-- a task has one to eight keys, if it has a list of them
abbrev pub HasFewKeys : Task → Type 0
HasFewKeys (tasks.Ask (asked.Message keys)) = (1 ≤ length keys) × (length keys ≤ most_keys)
HasFewKeys (tasks.Verify (verified.Message kind when last keys) answers) =
    (1 ≤ length keys) × (length keys ≤ most_keys)
HasFewKeys other = ⊤
