use Rattle.std.proofs.Common.{◌≡◌}
use Rattle.rpki_xml.specs.Tables.{each_of}
use Rattle.rpki_xml.proofs.Each.{with_front}
use Rattle.rpki_publication.specs.ListReply.{list_element_in}
use Rattle.rpki_publication.proofs.reading.objects_in.Given as goal

abbrev pub invariant-elements : goal.invariant-elements
invariant-elements l = with_front l.objects.items (each_of list_element_in l.children) ≡ each_of list_element_in l.fn.root.children
