use Rattle.std.proofs.Common.{ap, sym, Some}
use Rattle.rpki_sigmsg.specs.Message.{signed_message}
use Rattle.rpki_der.proofs.Counting.{takes_err, takes_so, refuses_so}
use Rattle.rpki_sigmsg.proofs.message.SignedMessage.take_from_counted.Goals as goal

pub returns-in_err-view : goal.returns-in_err-view
unfolding signed_message
returns-in_err-view g c = takes_err _ _ _ _ _ _ _ _ _ c.from_residual.ensures.1 (refuses_so _ _ _ _ _ _ _ c.in_err-view.ensures)

pub returns : goal.returns
unfolding signed_message
returns g c = takes_so _ _ _ _ _ _ _ _ _ c.in_ok-view.ensures (ap Some (sym c.into_message.ensures))
