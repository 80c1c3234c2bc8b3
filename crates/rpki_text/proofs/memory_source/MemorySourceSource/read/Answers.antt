use Rattle.std.proofs.Common.{arith, ap, sym}
use Rattle.rpki_text.proofs.Pieces.{given_then_left}
use Rattle.rpki_text.proofs.memory_source.MemorySourceSource.read.Goals as goal

pub returns-clause-next : goal.returns-clause-next
returns-clause-next c =
    given_then_left c.args.self.now.rest c.self.inside.octets.items c.copy_front.new.into c.self.inside.at c.min-count.result
    (sym (ap (λ s. s.rest) c.self.view_is)) (omega arith) (rw c.deref-2.ensures.value at c.copy_front.ensures.front)
