use Rattle.std.proofs.Common.{take}
use Rattle.std.specs.List.{AllByRecursion}
use Rattle.rpki_xml.specs.Lettered.{AreOctets}
use Rattle.rpki_upserver.specs.Table.{AreWritable}
use Rattle.rpki_upserver.proofs.table.are_writable.Given as goal

abbrev pub invariant-loop-class : goal.invariant-loop-class
invariant-loop-class l = record {
  names : AllByRecursion (λ c. AreOctets c.class_name) (take l.class-index l.classes);
  writable : AreWritable (take l.class-index l.classes);
}
