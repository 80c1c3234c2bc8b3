use Rattle.rpki_der.proofs.Modes.{decodes_in}
use Rattle.rpki_sigmsg.specs.Message.{signed_message, mode_of}
use Rattle.rpki_sigmsg.proofs.message.SignedMessage.decode.Goals as goal

pub returns : goal.returns
returns c = decodes_in signed_message _ (mode_of c.args.strict) _ _ _ _ (rw (← c.mode_of.ensures) c.new-cursor.ensures) c.take_from.ensures
