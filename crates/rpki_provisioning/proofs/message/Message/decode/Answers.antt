use Rattle.rpki_updown.specs.Answers.{cause_of}
use Rattle.rpki_xmltext.proofs.Transfers.{all_taken}
use Rattle.rpki_provisioning.specs.Answers.{RefusesMessage}
use Rattle.rpki_provisioning.specs.Message.{Reads}
use Rattle.rpki_provisioning.proofs.Readings.{blames}
use Rattle.rpki_provisioning.proofs.message.Message.decode.Goals as goal

pub returns : goal.returns
returns g c =
    let read = c.in_ok-octets.ensures in
    let v = c.in_ok-octets.octets.items in
    all_taken cause_of Reads RefusesMessage _ _ _ _ v c.decode_slice.result (blames v) read.whole read.end read.within (read.kept (λ e. cc)) read.later read.most (rw c.deref.ensures.value at c.decode_slice.ensures)
