use Rattle.rpki_setup.proofs.Writable.{service_printed}
use Rattle.rpki_setup.proofs.law.printed_service_uri_is_read.Goals as goal

pub returns : goal.returns
returns c = service_printed
