use Rattle.std.proofs.Common.{◌≡◌}
use Rattle.rpki_xml.specs.Tables.{each_of}
use Rattle.rpki_xml.proofs.Each.{with_front}
use Rattle.rpki_provisioning.specs.Class.{class_in}
use Rattle.rpki_provisioning.proofs.reading.classes_in.Given as goal

abbrev pub invariant-elements : goal.invariant-elements
invariant-elements l = with_front l.classes.items (each_of class_in l.children) ≡ each_of class_in l.fn.children
