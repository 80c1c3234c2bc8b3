use Rattle.rpki_updown.proofs.Again.{kind_again}
use Rattle.rpki_updown.proofs.law.printed_payload_type_is_read.Goals as goal

pub returns : goal.returns
returns c = kind_again
