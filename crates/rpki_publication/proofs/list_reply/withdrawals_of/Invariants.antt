use Rattle.std.proofs.Common.{◌≡◌, take, map}
use Rattle.rpki_publication.specs.declared.publish_delta_element.PublishDeltaElement.TheVariants as change
use Rattle.rpki_publication.specs.ListReply.{withdrawal_of}
use Rattle.rpki_publication.proofs.list_reply.withdrawals_of.Given as goal

abbrev pub invariant-loop-e : goal.invariant-loop-e
invariant-loop-e l = l.withdrawals.items ≡ map (λ e. change.Withdraw (withdrawal_of e)) (take l.e-index l.fn.elements)
