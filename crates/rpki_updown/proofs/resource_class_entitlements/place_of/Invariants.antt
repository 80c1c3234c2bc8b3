use Rattle.std.proofs.Common.{◌≡◌, take}
use Rattle.rpki_updown.specs.Entitlements.{NoneHas}
use Rattle.rpki_updown.proofs.resource_class_entitlements.place_of.Given as goal

abbrev pub invariant-loop-cert : goal.invariant-loop-cert
invariant-loop-cert l = (l.place ≡ l.cert-index) × NoneHas l.fn.key (take l.cert-index l.fn.certs)
