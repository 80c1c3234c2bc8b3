use Rattle.std.proofs.Common.{◌≢◌, List, map, refl, subst, ◌∙◌, ap, get_or, ℕ}
use Rattle.rpki_ca.specs.Refusal.{name_of}
use Rattle.rpki_ca.specs.declared.refusals.Refusal.TheVariants.{OutOfMemory}
use Rattle.rpki_base.specs.PublicKey.{KeyFields}
use Rattle.rpki_der.specs.Takes.{RefusesOctets}
use Rattle.rpki_der.specs.declared.error.DecodeError.{DecodeError}
use Rattle.rpki_der.specs.declared.error.DecodeError.TheVariants.{Malformed}
use Rattle.rpki_der.specs.declared.mode.Mode.TheVariants.{Ber}
use Rattle.rpki_sigmsg.specs.Beginning.{BeginsSigned}
use Rattle.rpki_sigmsg.specs.Message.{signed_message}
use Rattle.rpki_archive.specs.Explanation.{IsExplanation}
use Rattle.rpki_ca.specs.Lines.{digit_of}
use Rattle.rpki_archive.proofs.Judging.{explained_first, same_keys, explained_none, explained_refusal, if_err_same}
use Rattle.rpki_archive.proofs.explanations.checks_of.Goals as goal

pub returns-in_err-asked-clause-err : goal.returns-in_err-asked-clause-err
returns-in_err-asked-clause-err g c =
    if_err_same c.from_residual.result c.in_err-asked.field-0.0 (λ e. e ≢ OutOfMemory → IsExplanation g.P.Scheme.checks c.args.line.now (name_of e)) c.from_residual.ensures.1
    (λ other. explained_refusal g.P.Scheme.checks c.args.line.now c.in_err-asked.field-0.0 c.in_err-asked.ensures.err other)

pub returns-in-Err-Malformed-clause-err : goal.returns-in-Err-Malformed-clause-err
returns-in-Err-Malformed-clause-err g c = λ n.
    explained_none g.P.Scheme.checks c.args.line.now c.in_ok-asked.asked.octets.items c.in_ok-asked.asked.command c.in_ok-asked.ensures.ok
    (subst (λ (o : List ℕ). RefusesOctets (signed_message Ber) Ber o Malformed) c.deref.ensures.value (subst (λ (e : DecodeError). RefusesOctets (signed_message Ber) Ber c.deref.result.now e) c.in-Err-Malformed.field-0-is c.in-Err-Malformed.ensures))

pub returns-in-len1-up-clause-ok : goal.returns-in-len1-up-clause-ok
returns-in-len1-up-clause-ok g c =
    let begins = subst (λ (o : List ℕ). BeginsSigned o c.in-Ok.message) c.deref.ensures.value c.in-Ok.ensures in
    explained_first g.P.Scheme.checks c.args.line.now c.in_ok-asked.asked.octets.items (map digit_of c.checks_at.result) c.in_ok-asked.asked.command c.in-Receive.kind c.in-Receive.when c.in-Receive.keys c.key-item.result c.key-item.result c.in-Ok.message
    c.in_ok-asked.ensures.ok c.in-Receive.is (same_keys c.in-Receive.keys c.as_slice.result.now c.as_slice.ensures c.in-len1-up.len_at_least) (c.key-item.is ∙ ap (λ (keys : List KeyFields). get_or keys 0 c.key-item.result) c.as_slice.ensures) begins
    record { signed = c.in-Ok.message; begins = begins; checks = c.checks_at.result; are = c.checks_at.ensures.answered; written = refl }
