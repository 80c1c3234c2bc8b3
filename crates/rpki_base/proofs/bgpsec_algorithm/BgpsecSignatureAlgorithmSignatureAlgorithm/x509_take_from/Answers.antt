use Rattle.std.proofs.Common.{◌∙◌}
use Rattle.rpki_base.specs.BgpsecSignatureAlgorithm.{router_algorithm, router_meaning}
use Rattle.rpki_base.proofs.Identifiers.{not_meant, meant}
use Rattle.rpki_base.proofs.bgpsec_algorithm.BgpsecSignatureAlgorithmSignatureAlgorithm.x509_take_from.Goals as goal

pub returns-in_err-name : goal.returns-in_err-name
unfolding router_algorithm
returns-in_err-name c = c.from_residual.ensures ∙ not_meant router_meaning _ _ c.in_err-name.ensures

pub returns : goal.returns
unfolding router_algorithm
returns c = c.router_meaning.ensures ∙ meant router_meaning _ _ _ c.in_ok-name.ensures
