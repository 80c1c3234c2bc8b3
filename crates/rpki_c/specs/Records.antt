-- Several parts in one result: records, one behind the other.
use Rattle.std.specs.Prelude.{ℕ, List, [], ◌∷◌, ◌++◌}
use Rattle.rpki_idcert.specs.Spelling.{spelled_tbs}
use Rattle.rpki_sigmsg.specs.Making.{UnsignedFields, made_covered}
use Rattle.rpki_sigmsg.specs.Spelling.{spelled_tbs_crl}
use Rattle.rpki_external.specs.Making.{unsigned}
use Rattle.rpki_external.specs.Question.{QuestionsFields}
use Rattle.rpki_external.specs.Records.{Tagged, digest_of, question_records, tag_of, tagged}
use Rattle.rpki_external.specs.declared.preparing.Plan.{Plan}
use Rattle.rpki_external.specs.declared.question.Part.TheVariants.{Attributes, Certificate, Crl}

-- the digest of the questions in the records before
abbrev pub digest_tag : ℕ
digest_tag = 19

-- questions, and behind them their digest
abbrev pub asked_records : QuestionsFields → List Tagged
asked_records q = question_records q ++ tagged digest_tag (digest_of q) ∷ []

-- ---- what is to be signed

-- of a message that is prepared: attributes, CRL and certificate
abbrev pub unsigned_records : UnsignedFields → List Tagged
unsigned_records u = tagged (tag_of Attributes) (made_covered u.content.content u.content.moment)
    ∷ tagged (tag_of Crl) (spelled_tbs_crl u.crl)
    ∷ tagged (tag_of Certificate) (spelled_tbs u.certificate) ∷ []

-- of a message by a plan
abbrev pub message_records : List ℕ → Plan → List Tagged
message_records content p = unsigned_records (unsigned content p)
