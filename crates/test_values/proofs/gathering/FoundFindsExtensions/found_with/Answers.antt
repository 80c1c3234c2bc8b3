use Rattle.std.proofs.Common.{arith}
use Rattle.rpki_der.proofs.Insides.{gives_counted_err, lacks_memory}
use Rattle.test_values.proofs.gathering.FoundFindsExtensions.found_with.Goals as goal

pub returns-in_err-extend_from_slice : goal.returns-in_err-extend_from_slice
returns-in_err-extend_from_slice g c = gives_counted_err _ _ _ _ _ _ _ _ c.from_residual.ensures.1 (record { lacks = lacks_memory _; least = omega (arith); most = omega (arith) })

pub returns-in_err-extend_from_slice-2 : goal.returns-in_err-extend_from_slice-2
returns-in_err-extend_from_slice-2 g c = gives_counted_err _ _ _ _ _ _ _ _ c.from_residual-in_err-extend_from_slice-2.ensures.1 (record { lacks = lacks_memory _; least = omega (arith); most = omega (arith) })
