use Rattle.std.proofs.Common.{sym, subst}
use Rattle.std.proofs.lemmas.Result.{err_from_is_err_and}
use Rattle.rpki_upserver.specs.ToyIssuer.{MakesNone, ToyIssuerState}
use Rattle.rpki_upserver.specs.declared.issuer.IssuerError.TheVariants as errors
use Rattle.rpki_upserver.proofs.Toys.{made_none_so, spent}
use Rattle.rpki_upserver.proofs.toy_issuer.ToyIssuerIssuer.issue.Goals as goal

pub returns-in_err-cert-clause-issued : goal.returns-in_err-cert-clause-issued
returns-in_err-cert-clause-issued c =
    let p = err_from_is_err_and c.from_residual.result c.from_residual.ensures.1 in
    rw (p.1, p.2) (made_none_so c.args.self.now c.certificate.new.self c.in_err-cert.field-0.0 c.in_err-cert.ensures.err c.in_err-cert.ensures.later)

pub returns-in_err-made-clause-exact : goal.returns-in_err-made-clause-exact
returns-in_err-made-clause-exact c =
    let p = err_from_is_err_and c.from_residual-in_err-made.result c.from_residual-in_err-made.ensures.1 in
    let made = c.in_ok-cert.ensures.ok in
    rw (p.1, p.2) (spent _ _ c.args.self.now c.certificate.new.self made.made made.calls)

pub returns-in_err-add_made-clause-exact : goal.returns-in_err-add_made-clause-exact
returns-in_err-add_made-clause-exact c =
    let p = err_from_is_err_and c.from_residual-in_err-add_made.result c.from_residual-in_err-add_made.ensures.1 in
    let made = c.in_ok-cert.ensures.ok in
    rw (p.1, p.2) (subst (λ (i : ToyIssuerState). MakesNone c.args.self.now i errors.OutOfMemory) (sym c.in_err-add_made.ensures.err) (spent _ _ c.args.self.now c.certificate.new.self made.made made.calls))
