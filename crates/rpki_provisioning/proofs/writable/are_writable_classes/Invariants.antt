use Rattle.std.proofs.Common.{take}
use Rattle.std.specs.List.{AllByRecursion}
use Rattle.rpki_provisioning.specs.Writable.{IsWritableClass}
use Rattle.rpki_provisioning.proofs.writable.are_writable_classes.Given as goal

abbrev pub invariant-loop-class : goal.invariant-loop-class
invariant-loop-class l = AllByRecursion IsWritableClass (take l.class-index l.classes)
