use Rattle.rpki_external.proofs.Anchors.{anchor_again}
use Rattle.rpki_external.proofs.preparing_anchors.finish_anchor.Goals as goal

pub returns-clause-again : goal.returns-clause-again
returns-clause-again c =
    rw c.with_signature.ensures (anchor_again c.args.key.now c.args.validity c.args.signature c.are_moments.ensures _ c.in_ok-unsigned.ensures.prepared _ c.signature_of-signature.ensures)
