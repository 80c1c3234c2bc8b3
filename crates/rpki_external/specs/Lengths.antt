-- How many octets questions hand out: each key, signed part and signature once.
use Rattle.std.specs.Prelude.{ℕ, ◌+◌, List, length, map, sum_by}
use Rattle.rpki_base.specs.PublicKey.{KeyFields, spelled_key}
use Rattle.rpki_ca.specs.Lines.{answer_lines}
use Rattle.rpki_external.specs.Question.{QuestionFields, QuestionsFields, SignedPartFields, own_question}
use Rattle.rpki_external.specs.Spelling.{key_line}

-- the octets of a question: of the key in DER, of what is signed, and of the signature
abbrev pub question_length : QuestionFields → ℕ
question_length q = length (spelled_key q.key) + (length q.octets + length q.signature)

-- the octets of a part: of what is signed, and of the signature
abbrev pub part_length : SignedPartFields → ℕ
part_length p = length p.octets + length p.signature

-- the octets of keys, each in DER
abbrev pub keys_length : List KeyFields → ℕ
keys_length keys = sum_by (λ key. length (spelled_key key)) keys

-- the octets that are handed out: of the question of its own, of the parts, and of the keys
abbrev pub handed_out : QuestionsFields → ℕ
handed_out q = sum_by question_length (own_question q.own)
    + (sum_by part_length q.parts + keys_length q.keys)

-- the octets of the lines of keys
abbrev pub key_lines_length : List KeyFields → ℕ
key_lines_length keys = length (answer_lines (map key_line keys))
