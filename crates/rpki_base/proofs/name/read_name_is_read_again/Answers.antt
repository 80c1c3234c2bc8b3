use Rattle.rpki_der.specs.declared.mode.Mode.TheVariants.{Der}
use Rattle.rpki_der.proofs.Strict.{loose_begins}
use Rattle.rpki_base.proofs.MadeNames.{read_again}
use Rattle.rpki_base.proofs.name.read_name_is_read_again.Goals as goal

pub returns-clause-again : goal.returns-clause-again
returns-clause-again c = read_again

pub returns-clause-loosely : goal.returns-clause-loosely
returns-clause-loosely c = λ v octets rest more b n e. loose_begins _ v more (read_again Der v octets rest more b n e)
