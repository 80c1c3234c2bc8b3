use Rattle.std.proofs.Common.{ap, ◌∙◌}
use Rattle.serde_json.specs.Written.{has_float, compact_text}
use Rattle.rpki_external.proofs.Floatless.{message_plain}
use Rattle.rpki_external.proofs.inspecting.inspection_text.Goals as goal

pub returns : goal.returns
returns c =
    c.in_ok-to_string.ensures.text (ap has_float c.in_ok-value.ensures ∙ message_plain c.args.message.now) ∙ ap compact_text c.in_ok-value.ensures
