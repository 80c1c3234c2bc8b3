use Rattle.rpki_cert.proofs.Constructing.{again_so}
use Rattle.rpki_cert.proofs.construct.UnsignedCsr.with_signature.Goals as goal

pub returns-clause-again : goal.returns-clause-again
returns-clause-again c =
    again_so c.args.self c.self.inside.key c.self.inside.places c.args.signature _ _ _ _ _ c.self.view_is c.are_lawful.ensures c.self.invariant c.new-signed.ensures c.new-out.ensures c.in_ok-encode_ref.ensures.ok c.in_ok-encode_ref.ensures.spelled c.into_captured.ensures
