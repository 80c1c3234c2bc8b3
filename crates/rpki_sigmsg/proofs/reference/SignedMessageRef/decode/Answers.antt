use Rattle.rpki_der.proofs.Modes.{decodes_in}
use Rattle.rpki_sigmsg.specs.Message.{viewed_message, mode_of}
use Rattle.rpki_sigmsg.proofs.reference.SignedMessageRef.decode.Goals as goal

pub returns : goal.returns
returns c = decodes_in viewed_message _ (mode_of c.args.strict) _ _ _ _ (rw (← c.mode_of.ensures) c.new-cursor.ensures) c.take_from.ensures
