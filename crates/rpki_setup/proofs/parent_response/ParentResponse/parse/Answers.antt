use Rattle.rpki_setup.specs.Answers.{cause_of}
use Rattle.rpki_setup.specs.ParentResponse.{parent_response_in}
use Rattle.rpki_xmltext.proofs.Transfers.{taken}
use Rattle.rpki_setup.proofs.parent_response.ParentResponse.parse.Goals as goal

pub returns : goal.returns
returns g c =
    let read = c.in_ok-octets.ensures in
    taken cause_of parent_response_in _ _ _ _ c.in_ok-octets.octets.items c.parse_slice.result read.whole read.end read.within (read.kept (λ e. cc)) read.later read.most (rw c.deref.ensures.value at c.parse_slice.ensures)
