use Rattle.std.proofs.Common.{◌≡◌}
use Rattle.rpki_xml.specs.Tables.{each_of}
use Rattle.rpki_xml.proofs.Each.{with_front}
use Rattle.rpki_publication.specs.Change.{change_in}
use Rattle.rpki_publication.proofs.reading.changes_in.Given as goal

abbrev pub invariant-elements : goal.invariant-elements
invariant-elements l = with_front l.changes.items (each_of change_in l.children) ≡ each_of change_in l.fn.root.children
