use Rattle.rpki_c.proofs.Unread.{no_next_key}
use Rattle.rpki_c.proofs.arguments.next_key.Goals as goal

pub returns-in-Err-Malformed-clause-none : goal.returns-in-Err-Malformed-clause-none
returns-in-Err-Malformed-clause-none c = λ none. no_next_key _ c.in-Err-Malformed.field-0 c.in-Err-Malformed.field-0-is c.in-Err-Malformed.ensures
