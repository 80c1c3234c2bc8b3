use Rattle.std.proofs.Common.{ap, ◌∙◌}
use Rattle.std.specs.Option.{option_map}
use Rattle.rpki_base.proofs.Identifiers.{no_pair, no_name, no_null, all_found}
use Rattle.rpki_base.proofs.algorithm_identifier.take_identifier.Goals as goal

pub returns-in_err-name : goal.returns-in_err-name
returns-in_err-name c = ap (option_map (λ r. (r.0.now, r.1))) c.from_residual.ensures ∙ no_pair _ _ c.in_err-name.ensures

pub returns-in_err-name-2 : goal.returns-in_err-name-2
returns-in_err-name-2 c = ap (option_map (λ r. (r.0.now, r.1))) c.from_residual-in_err-name-2.ensures ∙ no_name _ _ _ _ c.in_ok-name.ensures c.in_err-name-2.ensures

pub returns-in_err-null : goal.returns-in_err-null
returns-in_err-null c = ap (option_map (λ r. (r.0.now, r.1))) c.from_residual-in_err-null.ensures ∙ no_null _ _ _ _ _ c.in_ok-name.ensures c.in_ok-name-2.ensures c.in_err-null.ensures

pub returns : goal.returns
returns c = all_found _ _ _ _ _ _ c.in_ok-name.ensures c.in_ok-name-2.ensures c.in_ok-null.ensures
