-- Lists of records: what is written of them in turn.
use Rattle.std.proofs.Common.{◌≡◌, ◌++◌, ℕ, List, [], ◌∷◌, append_assoc, refl, sym, ap, ◌∙◌}
use Rattle.rpki_external.specs.Question.{QuestionsFields}
use Rattle.rpki_external.specs.Records.{Tagged, key_records, own_records, part_records, questions_octets, record_of, records_of}

-- those in front are written, and then those behind
pub records_append : (front behind : List Tagged) → records_of (front ++ behind) ≡ records_of front ++ records_of behind
records_append [] behind = refl
records_append (t ∷ front) behind = ap (λ (more : List ℕ). record_of t ++ more) (records_append front behind) ∙ sym (append_assoc (record_of t) (records_of front) (records_of behind))

-- what is written in turn is written of all
pub written_in_turn : (q : QuestionsFields) (own parts all : List ℕ) → own ≡ records_of (own_records q.own) → parts ≡ own ++ records_of (part_records q.parts)
    → all ≡ parts ++ records_of (key_records q.keys) → all ≡ questions_octets q
written_in_turn q own parts all o p a =
    let own' = records_of (own_records q.own) in
    let parts' = records_of (part_records q.parts) in
    let keys' = records_of (key_records q.keys) in
    a ∙ ap (λ (l : List ℕ). l ++ keys') (p ∙ ap (λ (l : List ℕ). l ++ parts') o)
    ∙ append_assoc own' parts' keys'
    ∙ sym (records_append (own_records q.own) (part_records q.parts ++ key_records q.keys) ∙ ap (λ (l : List ℕ). own' ++ l) (records_append (part_records q.parts) (key_records q.keys)))
