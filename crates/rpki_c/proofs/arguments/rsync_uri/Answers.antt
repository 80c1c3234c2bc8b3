use Rattle.rpki_text.specs.Uri.{rsync}
use Rattle.rpki_c.proofs.Unread.{not_lawful}
use Rattle.rpki_c.proofs.arguments.rsync_uri.Goals as goal

pub returns-in_default-clause-none : goal.returns-in_default-clause-none
returns-in_default-clause-none c = λ none uri is. not_lawful rsync c.args.octets.now c.in_default.ensures.cases.0 is.1
