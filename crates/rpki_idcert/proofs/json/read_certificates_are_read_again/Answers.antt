use Rattle.rpki_idcert.proofs.JsonLaws.{read_again}
use Rattle.rpki_idcert.proofs.json.read_certificates_are_read_again.Goals as goal

pub returns : goal.returns
returns c = read_again
