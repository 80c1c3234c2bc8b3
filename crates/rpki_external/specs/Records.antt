-- Questions as octets: records, one behind the other; and their digest, to which answers are bound.
use Rattle.std.specs.Prelude.{◌≡◌, ◌≢◌, ◌⊎◌, ℕ, ◌<◌, ◌^◌, Option, None, Some, List, [], ◌∷◌, ◌++◌, length, map}
use Rattle.std.specs.Int.{to_be_bytes, w64}
use Rattle.std.specs.List.{AllByRecursion}
use Rattle.sha2.specs.Sha256.{sha256}
use Rattle.rpki_base.specs.PublicKey.{CanSpellKey, KeyFields, spelled_key}
use Rattle.rpki_external.specs.declared.question.Part.{Part}
use Rattle.rpki_external.specs.declared.question.Part.TheVariants.{Attributes, Certificate, Crl, Anchor, Request}
use Rattle.rpki_external.specs.Question.{QuestionFields, QuestionsFields, SignedPartFields, own_question}

-- a tag, and the octets behind it
pub record Tagged : Type 0 where
  pub tag : ℕ
  pub octets : List ℕ

-- these octets under this tag
abbrev pub tagged : ℕ → List ℕ → Tagged
tagged tag octets = record { tag = tag; octets = octets }

-- a record: the tag, how many octets there are, in eight octets, the most significant first, and
-- these
abbrev pub record_of : Tagged → List ℕ
record_of t = t.tag ∷ (to_be_bytes w64 (length t.octets) ++ t.octets)

-- records, one behind the other
abbrev pub records_of : List Tagged → List ℕ
records_of [] = []
records_of (t ∷ more) = record_of t ++ records_of more

-- eight octets tell how many octets there are
abbrev pub Fits : Tagged → Type 0
Fits t = length t.octets < 2 ^ 64

-- they tell it of each record
abbrev pub AllFit : List Tagged → Type 0
AllFit list = AllByRecursion Fits list

-- ---- tags

-- the octets that are signed, or to be signed, of a part
abbrev pub tag_of : Part → ℕ
tag_of Attributes = 1
tag_of Certificate = 2
tag_of Crl = 3
tag_of Anchor = 4
tag_of Request = 5

-- the signature of the part in the record before
abbrev pub signature_tag : ℕ
signature_tag = 16

-- the key under which the part in the next record is asked
abbrev pub own_key_tag : ℕ
own_key_tag = 17

-- one of the keys that were handed in
abbrev pub key_tag : ℕ
key_tag = 18

-- ---- questions

-- what is signed of a part, and its signature
abbrev pub signed_records : Part → List ℕ → List ℕ → List Tagged
signed_records part octets signature =
    tagged (tag_of part) octets ∷ tagged signature_tag signature ∷ []

-- the question of its own: the key in DER, and what is signed under it
abbrev pub own_records : Option QuestionFields → List Tagged
own_records None = []
own_records (Some q) =
    tagged own_key_tag (spelled_key q.key) ∷ signed_records q.part q.octets q.signature

-- each part that is asked under each of the keys
abbrev pub part_records : List SignedPartFields → List Tagged
part_records [] = []
part_records (p ∷ more) = signed_records p.part p.octets p.signature ++ part_records more

-- each of the keys, in DER
abbrev pub key_records : List KeyFields → List Tagged
key_records list = map (λ key. tagged key_tag (spelled_key key)) list

-- questions: that of its own, those of the parts, and the keys
abbrev pub question_records : QuestionsFields → List Tagged
question_records q = own_records q.own ++ (part_records q.parts ++ key_records q.keys)

-- the octets of questions
abbrev pub questions_octets : QuestionsFields → List ℕ
questions_octets q = records_of (question_records q)

-- their SHA-256
abbrev pub digest_of : QuestionsFields → List ℕ
digest_of q = sha256 (questions_octets q)

-- ---- other octets for each value

-- the key has a spelling, and eight octets tell how long each record is
pub record IsWritableQuestion (q : QuestionFields) : Type 0 where
  pub key : CanSpellKey q.key
  pub fit : AllFit (own_records (Some q))

-- eight octets tell how long each record is
abbrev pub IsWritablePart : SignedPartFields → Type 0
IsWritablePart p = AllFit (signed_records p.part p.octets p.signature)

-- the key has a spelling, and eight octets tell how long it is
pub record IsWritableKey (key : KeyFields) : Type 0 where
  pub spelled : CanSpellKey key
  pub fits : Fits (tagged key_tag (spelled_key key))

-- all questions of a program are so
pub record AreWritable (q : QuestionsFields) : Type 0 where
  pub own : AllByRecursion IsWritableQuestion (own_question q.own)
  pub parts : AllByRecursion IsWritablePart q.parts
  pub keys : AllByRecursion IsWritableKey q.keys

-- octets that aren't the same have one SHA-256
pub record Collide (one other : List ℕ) : Type 0 where
  pub apart : one ≢ other
  pub digest : sha256 one ≡ sha256 other

-- the questions are the same, or their octets, which differ, have one SHA-256
abbrev pub SameUnlessCollide : QuestionsFields → QuestionsFields → Type 0
SameUnlessCollide a b = (a ≡ b) ⊎ Collide (questions_octets a) (questions_octets b)
