use Rattle.std.proofs.Common.{sym}
use Rattle.rpki_cert.proofs.Lawfulness.{not_text}
use Rattle.rpki_cert.proofs.access.lawful.Goals as goal

pub returns-in_default : goal.returns-in_default
returns-in_default g c = sym (not_text g.K.UriKind.kind c.args.octets.now c.in_default.ensures.cases.0)
