-- Questions as a text of lines.
use Rattle.std.specs.Prelude.{ℕ, List, ◌++◌, codes, map}
use Rattle.hex.specs.Hex.{encode_lower}
use Rattle.rpki_base.specs.PublicKey.{KeyFields, spelled_key}
use Rattle.rpki_ca.specs.Lines.{answer_lines}
use Rattle.rpki_external.specs.declared.question.Part.{Part}
use Rattle.rpki_external.specs.declared.question.Part.TheVariants.{Attributes, Certificate, Crl, Anchor, Request}
use Rattle.rpki_external.specs.Question.{QuestionFields, QuestionsFields, SignedPartFields, own_question}

-- the name of a part
abbrev pub part_name : Part → List ℕ
part_name Attributes = codes "attributes"
part_name Certificate = codes "certificate"
part_name Crl = codes "crl"
part_name Anchor = codes "anchor"
part_name Request = codes "request"

-- words, with one space between
abbrev pub four_words : List ℕ → List ℕ → List ℕ → List ℕ → List ℕ
four_words one two three four =
    one ++ (codes " " ++ (two ++ (codes " " ++ (three ++ (codes " " ++ four)))))

-- a question: the name of its part, the key in DER, the octets and the signature
abbrev pub question_line : QuestionFields → List ℕ
question_line q = four_words (part_name q.part) (encode_lower (spelled_key q.key))
    (encode_lower q.octets) (encode_lower q.signature)

-- a part under each of the keys: its name, a hyphen, the octets and the signature
abbrev pub part_line : SignedPartFields → List ℕ
part_line p = four_words (part_name p.part) (codes "-") (encode_lower p.octets)
    (encode_lower p.signature)

-- one of the keys: the word key, and the key in DER
abbrev pub key_line : KeyFields → List ℕ
key_line key = codes "key " ++ encode_lower (spelled_key key)

-- the lines of questions: that of its own, those of the parts, and those of the keys
abbrev pub question_lines : QuestionsFields → List (List ℕ)
question_lines q = map question_line (own_question q.own)
    ++ (map part_line q.parts ++ map key_line q.keys)

-- the text of questions
abbrev pub questions_text : QuestionsFields → List ℕ
questions_text q = answer_lines (question_lines q)
