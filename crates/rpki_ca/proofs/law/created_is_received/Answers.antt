use Rattle.std.proofs.Common.{refl}
use Rattle.rpki_ca.specs.Acceptance.{accepted_text}
use Rattle.rpki_sigmsg.specs.Spelling.{rewritten}
use Rattle.rpki_sigmsg.proofs.MadeMessages.{created_again, created_believed}
use Rattle.rpki_ca.proofs.Creating.{message_created}
use Rattle.rpki_ca.proofs.law.created_is_received.Goals as goal

pub returns : goal.returns
returns g c = λ message when signer m writable created spelled.
    let again = created_again g.P.Scheme.checks (accepted_text message) when signer.id signer.before signer.after m created in
    let believed = created_believed g.P.Scheme.checks (accepted_text message) when signer.id signer.before signer.after m created in
    (message_created g.P.Scheme.checks message when signer m (accepted_text message) (rewritten m) refl created refl spelled again believed writable).receivable
