use Rattle.std.proofs.lemmas.Result.{err_from_is_err_and}
use Rattle.rpki_sigmsg.proofs.AnyKey.{failed_too, found_rank, first_found, all_failed, fails_under_all}
use Rattle.rpki_sigmsg.proofs.Meaning.{said_of_all}
use Rattle.rpki_sigmsg.proofs.message.SignedMessage.any_failure.Goals as goal

pub returns-in_err-own_failure-clause-first_failing : goal.returns-in_err-own_failure-clause-first_failing
returns-in_err-own_failure-clause-first_failing g c =
    let p = err_from_is_err_and c.from_residual.result c.from_residual.ensures.1 in
    rw (p.1, p.2) (fails_under_all g.P.Scheme.checks c.args.self.now c.args.keys.now c.args.when c.in_err-own_failure.field-0.0 c.requires c.in_err-own_failure.ensures.first_failing)

pub returns-in-Ok-clause-ok : goal.returns-in-Ok-clause-ok
returns-in-Ok-clause-ok g c =
    let said = said_of_all g.P.Scheme.checks c.args.self.now c.index-keys-place.result c.args.when _ c.in_ok-own_failure.ensures.first_failing c.in-Ok.ensures.first_failing in
    first_found g.P.Scheme.checks c.args.self.now c.args.keys.now c.args.when c.loop-place.place c.loop-place.greatest c.index-keys-place.result c.loop-place-test.true c.index-keys-place.is
    (record { attributes = c.in_ok-own_failure.ensures.signed; certificate = c.in-Ok.ensures.certificate; crls = c.in-Ok.ensures.crls }) said c.loop-place.invariant

pub returns-in-Ok-clause-first_failing : goal.returns-in-Ok-clause-first_failing
returns-in-Ok-clause-first_failing g c =
    let said = said_of_all g.P.Scheme.checks c.args.self.now c.index-keys-place.result c.args.when _ c.in_ok-own_failure.ensures.first_failing c.in-Ok.ensures.first_failing in
    found_rank g.P.Scheme.checks c.args.self.now c.args.keys.now c.args.when c.loop-place.place c.loop-place.greatest c.index-keys-place.result c.loop-place-test.true c.index-keys-place.is said c.loop-place.invariant

pub loop-place-preserved : goal.loop-place-preserved
loop-place-preserved g c =
    let said = said_of_all g.P.Scheme.checks c.args.self.now c.index-keys-place.result c.args.when _ c.in_ok-own_failure.ensures.first_failing c.in-Err.ensures.first_failing in
    failed_too g.P.Scheme.checks c.args.self.now c.args.keys.now c.args.when c.loop-place.place c.loop-place.greatest c.in-Err.check c.max-greatest.result c.index-keys-place.result c.loop-place-test.true
    c.index-keys-place.is said c.max-greatest.ensures c.loop-place.invariant

pub returns-clause-first_failing : goal.returns-clause-first_failing
returns-clause-first_failing g c = all_failed g.P.Scheme.checks c.args.self.now c.args.keys.now c.args.when c.loop-place.place c.loop-place.greatest c.loop-place-test.false c.loop-place.invariant
