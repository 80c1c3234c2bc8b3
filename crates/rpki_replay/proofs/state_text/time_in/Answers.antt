use Rattle.rpki_replay.proofs.Texts.{time_made, time_not_refused, time_is_text}
use Rattle.rpki_replay.proofs.state_text.time_in.Goals as goal

pub returns-in_default : goal.returns-in_default
returns-in_default c = λ when is same. absurd (c.in_default.ensures.cases.0 (time_is_text c.args.word.now when is same))

pub returns-in-Ok-parse : goal.returns-in-Ok-parse
returns-in-Ok-parse c = λ when is same. time_made c.args.word.now c.in-Ok.text.now c.parse.result c.in-Ok-parse.seconds when c.new.result is same c.in-Ok.ensures.cases.0 c.parse.ensures.value.0 c.in-Ok-parse.is c.new.ensures.some.1 c.new.ensures.value

pub returns-in-Err : goal.returns-in-Err
returns-in-Err c = λ when is same. absurd (time_not_refused c.args.word.now c.in-Ok.text.now c.parse.result c.in-Err.field-0 when is same c.in-Ok.ensures.cases.0 c.parse.ensures.value.0 c.in-Err.is)
