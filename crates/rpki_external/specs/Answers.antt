-- Answers to questions, and the scheme that they are.
use Rattle.std.specs.Prelude.{◌≡◌, ◌≢◌, ℕ, Bool, true, false, ◌&&◌, if◌then◌else◌, bytes_eq, Decides, List, [], ◌∷◌, length, ⊤}
use Rattle.rpki_base.specs.Algorithm.{format_of}
use Rattle.rpki_base.specs.PublicKey.{KeyFields}
use Rattle.rpki_base.specs.Scheme.{Relation}
use Rattle.rpki_base.specs.declared.algorithm.SigningAlgorithm.TheVariants.{RsaSha256}
use Rattle.rpki_ca.specs.Keys.{same_key}
use Rattle.rpki_external.specs.declared.answers.AnswersError.{AnswersError}
use Rattle.rpki_external.specs.declared.answers.AnswersError.TheVariants as errors
use Rattle.rpki_external.specs.Question.{QuestionFields, QuestionsFields, SignatureHolds, listed}
use Rattle.rpki_external.specs.Records.{AreWritable, digest_of}

-- the digest of the questions, and a truth value for each of them, in their order
pub record AnswersFields : Type 0 where
  pub digest : List ℕ
  pub values : List Bool

-- ---- to which questions they are answers

-- the digest is that of these questions, and there are as many as questions
pub record AreTo (a : AnswersFields) (q : QuestionsFields) : Type 0 where
  pub digest : a.digest ≡ digest_of q
  pub number : length a.values ≡ length (listed q)

-- they count for the questions: they are to them, whose octets are those of no other value
pub record CountFor (a : AnswersFields) (q : QuestionsFields) : Type 0 where
  pub to : AreTo a q
  pub writable : AreWritable q

-- why they aren't: the digest is another; or it is the same, and there are more or fewer
abbrev pub RefusesAnswers : AnswersFields → QuestionsFields → AnswersError → Type 0
RefusesAnswers a q errors.OtherQuestions = a.digest ≢ digest_of q
RefusesAnswers a q errors.Number =
    (a.digest ≡ digest_of q) × (length a.values ≢ length (listed q))
RefusesAnswers a q errors.OutOfMemory = ⊤

-- ---- what answers are right

-- there are as many answers as questions, and each says whether what its question asks is so under
-- the scheme
abbrev pub AreRight : Relation → List QuestionFields → List Bool → Type 0
AreRight scheme [] [] = ⊤
AreRight scheme [] (a ∷ answers) = ⊥
AreRight scheme (q ∷ questions) [] = ⊥
AreRight scheme (q ∷ questions) (a ∷ answers) =
    Decides a (SignatureHolds scheme q) × AreRight scheme questions answers

-- ---- the scheme that the answers are

-- the question asks this
abbrev pub asks : QuestionFields → KeyFields → List ℕ → List ℕ → Bool
asks q key message signature =
    same_key q.key key && (bytes_eq q.octets message && bytes_eq q.signature signature)

-- the answer to the first question that asks this; no where there is none, or no answer to it
abbrev pub answer_to : List QuestionFields → List Bool → KeyFields → List ℕ → List ℕ → Bool
answer_to [] answers key message signature = false
answer_to (q ∷ questions) [] key message signature = false
answer_to (q ∷ questions) (a ∷ answers) key message signature =
    if asks q key message signature then a
    else answer_to questions answers key message signature

-- under RSA keys alone, the signatures that the answers say to hold
abbrev pub by_answers : List QuestionFields → List Bool → Relation
by_answers questions answers kind key message signature =
    (key.format ≡ format_of kind) × (kind ≡ RsaSha256)
    × (answer_to questions answers key message signature ≡ true)

-- the scheme that answers to questions are
abbrev pub answered_scheme : QuestionsFields → AnswersFields → Relation
answered_scheme q a = by_answers (listed q) a.values

-- the answers count for the questions, and under the scheme that they are this is so
pub record IsAnsweredSo (a : AnswersFields) (q : QuestionsFields) (is : Relation → Type 0) : Type 0
  where
    pub count : CountFor a q
    pub so : is (answered_scheme q a)
