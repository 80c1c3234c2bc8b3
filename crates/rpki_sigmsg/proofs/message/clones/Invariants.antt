use Rattle.std.proofs.Common.{◌≡◌, take}
use Rattle.rpki_sigmsg.proofs.message.clones.Given as goal

abbrev pub invariant-loop-crl : goal.invariant-loop-crl
invariant-loop-crl l = l.list.items ≡ take l.crl-index l.crls
