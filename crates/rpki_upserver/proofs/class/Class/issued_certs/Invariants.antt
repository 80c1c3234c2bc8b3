use Rattle.std.proofs.Common.{◌≡◌, take}
use Rattle.rpki_upserver.proofs.class.Class.issued_certs.Given as goal

abbrev pub invariant-loop-certified : goal.invariant-loop-certified
invariant-loop-certified l = l.certs.items ≡ take l.certified-index l.issued
