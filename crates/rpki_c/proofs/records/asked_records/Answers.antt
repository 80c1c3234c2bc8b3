use Rattle.std.proofs.Common.{◌≡◌, ◌++◌, ◌∷◌, ◌∙◌, [], List, ℕ, ap, append-nil, rules, sym}
use Rattle.rpki_external.specs.Records.{digest_of, question_records, questions_octets, record_of, tagged}
use Rattle.rpki_external.proofs.RecordLists.{records_append}
use Rattle.rpki_c.proofs.records.asked_records.Goals as goal

pub returns : goal.returns
returns c =
    let q = c.args.questions.now in
    let last = record_of (tagged 19 (digest_of q)) in
    let written : c.push_record.new.text.items ≡ questions_octets q ++ last = search rules in
    written ∙ sym (records_append (question_records q) (tagged 19 (digest_of q) ∷ []) ∙ ap (λ (l : List ℕ). questions_octets q ++ l) (append-nil last))
