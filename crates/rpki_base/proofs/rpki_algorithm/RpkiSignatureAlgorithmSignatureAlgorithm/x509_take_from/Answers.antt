use Rattle.std.proofs.Common.{◌∙◌}
use Rattle.rpki_base.specs.RpkiSignatureAlgorithm.{x509_algorithm, x509_meaning}
use Rattle.rpki_base.proofs.Identifiers.{not_meant, meant}
use Rattle.rpki_base.proofs.rpki_algorithm.RpkiSignatureAlgorithmSignatureAlgorithm.x509_take_from.Goals as goal

pub returns-in_err-name : goal.returns-in_err-name
unfolding x509_algorithm
returns-in_err-name c = c.from_residual.ensures ∙ not_meant x509_meaning _ _ c.in_err-name.ensures

pub returns : goal.returns
unfolding x509_algorithm
returns c = c.x509_meaning.ensures ∙ meant x509_meaning _ _ _ c.in_ok-name.ensures
