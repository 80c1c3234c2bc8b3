use Rattle.std.proofs.Common.{◌++◌, ◌∙◌, List, ap, subst, ℕ}
use Rattle.hex.specs.Hex.{IsBytes}
use Rattle.rpki_base.specs.Civil.{IsMoment}
use Rattle.rpki_base.specs.PublicKey.{spelled_key}
use Rattle.rpki_replay.proofs.state_text.peer_line.Goals as goal

pub returns-clause-peer : goal.returns-clause-peer
returns-clause-peer c = record {
  moment = subst IsMoment c.seconds.ensures.value c.seconds.ensures.range;
  spelled = c.in_ok-encode_ref.ensures.spelled;
  octets = subst IsBytes (c.as_slice.ensures ∙ c.in_ok-encode_ref.ensures.ok ∙ ap (λ (l : List ℕ). l ++ spelled_key c.args.peer.now.key) c.new-der.ensures) c.in_ok-line.ensures.octets;
}
