use Rattle.std.proofs.Common.{◌≡◌, take}
use Rattle.rpki_updown.proofs.resource_class_entitlements.copied.Given as goal

abbrev pub invariant-loop-cert : goal.invariant-loop-cert
invariant-loop-cert l = l.copies.items ≡ take l.cert-index l.fn.certs
