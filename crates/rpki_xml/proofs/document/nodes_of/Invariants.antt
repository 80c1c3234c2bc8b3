use Rattle.std.proofs.Common.{length}
use Rattle.rpki_xml.specs.Stack.{held, AreOpensHeld}
use Rattle.rpki_xml.proofs.Documents.{Reached}
use Rattle.rpki_xml.proofs.document.nodes_of.Given as goal

abbrev pub invariant-loop-rest : goal.invariant-loop-rest
invariant-loop-rest l = record {
  reached : Reached l.octets l.rest (held l.octets l.nodes.items l.places.items);
  kept : AreOpensHeld l.octets l.nodes.items l.places.items;
}

abbrev pub decreases-loop-rest : goal.decreases-loop-rest
decreases-loop-rest l = length l.rest
