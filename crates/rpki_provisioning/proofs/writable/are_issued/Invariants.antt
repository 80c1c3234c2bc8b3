use Rattle.std.proofs.Common.{take}
use Rattle.std.specs.List.{AllByRecursion}
use Rattle.rpki_provisioning.specs.Writable.{IsWritableIssued}
use Rattle.rpki_provisioning.proofs.writable.are_issued.Given as goal

abbrev pub invariant-loop-issued : goal.invariant-loop-issued
invariant-loop-issued l = AllByRecursion IsWritableIssued (take l.issued-index l.certs)
