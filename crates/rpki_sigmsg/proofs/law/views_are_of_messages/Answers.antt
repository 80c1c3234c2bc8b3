use Rattle.std.proofs.Common.{refl}
use Rattle.rpki_common.specs.Chaining.{◌>>=◌}
use Rattle.rpki_der.specs.Grammar.{so}
use Rattle.rpki_sigmsg.specs.Message.{signed_message}
use Rattle.rpki_sigmsg.proofs.law.views_are_of_messages.Goals as goal

pub returns-clause-seen : goal.returns-clause-seen
unfolding signed_message so ◌>>=◌
returns-clause-seen c = λ mode v w e. rw e refl

pub returns-clause-none : goal.returns-clause-none
unfolding signed_message so ◌>>=◌
returns-clause-none c = λ mode v e. rw e refl
