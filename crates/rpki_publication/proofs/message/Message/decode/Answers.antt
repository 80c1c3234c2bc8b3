use Rattle.rpki_publication.specs.Answers.{cause_of}
use Rattle.rpki_publication.specs.Message.{message_of}
use Rattle.rpki_xmltext.proofs.Transfers.{taken}
use Rattle.rpki_publication.proofs.message.Message.decode.Goals as goal

pub returns : goal.returns
returns g c =
    let read = c.in_ok-octets.ensures in
    taken cause_of message_of _ _ _ _ c.in_ok-octets.octets.items c.decode_slice.result read.whole read.end read.within (read.kept (λ e. cc)) read.later read.most (rw c.deref.ensures.value at c.decode_slice.ensures)
