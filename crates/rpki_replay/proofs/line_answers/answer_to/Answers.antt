use Rattle.std.proofs.Common.{◌∙◌, ap, string_bytes}
use Rattle.rpki_replay.specs.Messages.{Sent}
use Rattle.rpki_replay.proofs.Judging.{is_none}
use Rattle.rpki_replay.proofs.line_answers.answer_to.Goals as goal

pub returns-in_ok-from_str-in-Err-Malformed : goal.returns-in_ok-from_str-in-Err-Malformed
returns-in_ok-from_str-in-Err-Malformed g c =
    is_none g.P.Scheme.checks c.args.when c.args.guard.now c.args.sent.now c.deref.result.now (string_bytes c.in_ok-from_str-in-Err-Malformed.field-0)
    (c.deref.ensures.value ∙ ap (λ (s : Sent). s.octets) c.sent.view_is) (rw c.in-Err-Malformed.field-0-is at c.in-Err-Malformed.ensures) c.in_ok-from_str-in-Err-Malformed.ensures.ok
