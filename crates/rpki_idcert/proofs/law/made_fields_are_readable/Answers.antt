use Rattle.std.proofs.Common.{sym, subst}
use Rattle.rpki_idcert.specs.Spelling.{AreReadable}
use Rattle.rpki_idcert.proofs.ReadAgain.{made_readable}
use Rattle.rpki_idcert.proofs.law.made_fields_are_readable.Goals as goal

pub returns : goal.returns
returns c mode issuing key serial validity t twenty first last made = subst (AreReadable mode) (sym made.is) (made_readable mode made.own issuing key serial validity twenty first last)
