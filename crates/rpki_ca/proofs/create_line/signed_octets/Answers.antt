use Rattle.std.proofs.Common.{◌∙◌}
use Rattle.rpki_ca.proofs.Creating.{message_created}
use Rattle.rpki_ca.proofs.create_line.signed_octets.Goals as goal

pub returns-clause-created : goal.returns-clause-created
returns-clause-created g c =
    message_created g.P.Scheme.checks c.args.message c.args.when _ c.in_ok-signed.signed c.in_ok-text.text c.into_bytes.result c.in_ok-text.ensures c.in_ok-signed.ensures.created
    (c.into_bytes.ensures ∙ c.in_ok-to_captured.ensures.octets) c.in_ok-to_captured.ensures.spelled c.in_ok-signed.ensures.again c.in_ok-signed.ensures.believed c.requires
