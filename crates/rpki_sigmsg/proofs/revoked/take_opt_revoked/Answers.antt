use Rattle.rpki_der.proofs.Counting.{takes_part_err}
use Rattle.rpki_sigmsg.proofs.Ahead.{seen, none_stands, one_stands, refused_there}
use Rattle.rpki_sigmsg.proofs.revoked.take_opt_revoked.Goals as goal

pub returns-then-not-begins_sequence : goal.returns-then-not-begins_sequence
returns-then-not-begins_sequence g c = none_stands _ _ _ (seen _ _ _ c.if-not-begins_sequence.ensures c.here.ensures)

pub returns-in_err-list : goal.returns-in_err-list
returns-in_err-list g c = takes_part_err _ _ _ _ _ _ _ _ _ _ c.from_residual.ensures.1 (refused_there _ _ _ _ _ (seen _ _ _ c.if-not-begins_sequence.ensures c.here.ensures) c.in_err-list.ensures)

pub returns : goal.returns
returns g c = one_stands _ _ _ _ _ _ (seen _ _ _ c.if-not-begins_sequence.ensures c.here.ensures) c.in_ok-list.ensures
