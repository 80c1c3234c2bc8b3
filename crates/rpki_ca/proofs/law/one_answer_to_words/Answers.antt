use Rattle.rpki_ca.proofs.Laws as laws
use Rattle.rpki_ca.proofs.law.one_answer_to_words.Goals as goal

pub returns : goal.returns
returns g c = laws.one_answer_to_words g.P.Scheme.checks
