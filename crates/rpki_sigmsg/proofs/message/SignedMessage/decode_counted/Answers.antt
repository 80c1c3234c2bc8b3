use Rattle.rpki_sigmsg.specs.Message.{signed_message, mode_of}
use Rattle.rpki_sigmsg.proofs.Bounds.{counted_message}
use Rattle.rpki_sigmsg.proofs.message.SignedMessage.decode_counted.Goals as goal

pub returns : goal.returns
returns g c = counted_message signed_message (mode_of c.args.strict) _ c.new-cursor.result _ _ _ _ _ (rw (← c.mode_of.ensures) c.new-cursor.ensures) c.take_from_counted.ensures
