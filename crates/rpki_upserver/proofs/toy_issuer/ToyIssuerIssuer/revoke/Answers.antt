use Rattle.std.proofs.lemmas.Result.{err_from_is_err_and}
use Rattle.rpki_upserver.proofs.Toys.{no_key_so}
use Rattle.rpki_upserver.proofs.toy_issuer.ToyIssuerIssuer.revoke.Goals as goal

pub returns-in_err-ask-clause-revoked : goal.returns-in_err-ask-clause-revoked
returns-in_err-ask-clause-revoked c =
    let p = err_from_is_err_and c.from_residual.result c.from_residual.ensures.1 in
    rw (p.1, p.2) (no_key_so c.args.self.now c.ask.new.self c.in_err-ask.field-0.0 c.in_err-ask.ensures.err c.in_err-ask.ensures.later)
