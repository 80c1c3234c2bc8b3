use Rattle.rpki_base.proofs.Offsets.{rfc3339_again}
use Rattle.rpki_base.proofs.law.printed_time_is_read_again.Goals as goal

pub returns : goal.returns
returns c = rfc3339_again
