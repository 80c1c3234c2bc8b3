use Rattle.rpki_ca.proofs.Commands.{SpellSoFar}
use Rattle.rpki_ca.proofs.words.Words.keys_from.Given as goal

abbrev pub invariant-loop-place : goal.invariant-loop-place
invariant-loop-place l = SpellSoFar l.self l.index l.place l.keys.items
