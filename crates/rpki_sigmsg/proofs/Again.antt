-- What is written of a message begins with that message, whatever stands behind it.
use Rattle.std.proofs.Common.{ℕ, List, ◌++◌}
use Rattle.rpki_der.specs.declared.mode.Mode.{Mode}
use Rattle.rpki_der.specs.declared.mode.Mode.TheVariants.{Ber, Der}
use Rattle.rpki_der.specs.Takes.{BeginsAs}
use Rattle.rpki_idcert.proofs.Pieces.{begins_as}
use Rattle.rpki_sigmsg.specs.Message.{MessageFields, signed_message}
use Rattle.rpki_sigmsg.specs.Spelling.{rewritten, CanSpellMessage}
use Rattle.rpki_sigmsg.proofs.Rewriting.{IsHeld, held_again}
use Rattle.rpki_sigmsg.proofs.Loosening.{message_begins}

pub begins_again : (mode : Mode) (m : MessageFields) (rest : List ℕ) → IsHeld mode m → CanSpellMessage m → BeginsAs (signed_message mode) mode (rewritten m ++ rest) m
begins_again mode m rest h k =
    let p = held_again mode m h k in
    record { value = p.value; rest = rest; begins = begins_as mode (signed_message mode) (rewritten m) m p rest; reads = p.reads }

pub begins_loosely : (mode : Mode) (m : MessageFields) (rest : List ℕ) → IsHeld mode m → CanSpellMessage m → BeginsAs (signed_message Ber) Ber (rewritten m ++ rest) m
begins_loosely Ber m rest h k = begins_again Ber m rest h k
begins_loosely Der m rest h k = message_begins (rewritten m ++ rest) m (begins_again Der m rest h k)
