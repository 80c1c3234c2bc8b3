use Rattle.std.proofs.Common.{◌≡◌, ◌++◌, drop, map}
use Rattle.serde_json.specs.View.{view}
use Rattle.rpki_external.specs.Inspection.{crl_inspection}
use Rattle.rpki_external.proofs.inspecting.inspect_crls.Given as goal

abbrev pub invariant-loop-crl : goal.invariant-loop-crl
invariant-loop-crl l = map view l.list.items ++ map crl_inspection (drop l.crl-index l.crls) ≡ map crl_inspection l.crls
