use Rattle.std.proofs.Common.{rules}
use Rattle.rpki_external.proofs.RecordLists.{written_in_turn}
use Rattle.rpki_external.proofs.records.question_records.Goals as goal

pub returns-clause-octets : goal.returns-clause-octets
returns-clause-octets c =
    written_in_turn c.args.questions.now c.in_ok-text.text.items c.push_parts.new.text.items c.push_keys.new.text.items (search rules) (search rules) (search rules)
