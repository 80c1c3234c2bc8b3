use Rattle.std.proofs.Common.{refl}
use Rattle.rpki_text.specs.Uri.{https}
use Rattle.rpki_c.proofs.Unread.{not_lawful}
use Rattle.rpki_c.proofs.arguments.https_in.Goals as goal

pub returns-in_default-clause-err : goal.returns-in_default-clause-err
returns-in_default-clause-err c = λ other. (refl, λ uri is. not_lawful https c.args.octets.now c.in_default.ensures.cases.0 is.1)
