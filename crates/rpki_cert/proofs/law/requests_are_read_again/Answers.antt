use Rattle.rpki_cert.proofs.Reread.{request_read}
use Rattle.rpki_cert.proofs.law.requests_are_read_again.Goals as goal

pub returns : goal.returns
returns c = request_read c.args.request.now c.signed_data-signed.ensures.der
