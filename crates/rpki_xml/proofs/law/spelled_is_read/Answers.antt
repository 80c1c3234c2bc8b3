use Rattle.rpki_xml.proofs.Octets.{written_is_read}
use Rattle.rpki_xml.proofs.law.spelled_is_read.Goals as goal

pub returns : goal.returns
returns c = written_is_read
