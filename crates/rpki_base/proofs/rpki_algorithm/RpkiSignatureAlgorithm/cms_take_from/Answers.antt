use Rattle.std.proofs.Common.{◌∙◌}
use Rattle.rpki_base.specs.RpkiSignatureAlgorithm.{cms_algorithm, cms_meaning}
use Rattle.rpki_base.proofs.Identifiers.{not_meant, meant}
use Rattle.rpki_base.proofs.rpki_algorithm.RpkiSignatureAlgorithm.cms_take_from.Goals as goal

pub returns-in_err-name : goal.returns-in_err-name
unfolding cms_algorithm
returns-in_err-name c = c.from_residual.ensures ∙ not_meant cms_meaning _ _ c.in_err-name.ensures

pub returns : goal.returns
unfolding cms_algorithm
returns c = c.cms_meaning.ensures ∙ meant cms_meaning _ _ _ c.in_ok-name.ensures
