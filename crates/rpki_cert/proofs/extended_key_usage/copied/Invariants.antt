use Rattle.std.proofs.Common.{◌≡◌, take}
use Rattle.rpki_cert.proofs.extended_key_usage.copied.Given as goal

abbrev pub invariant-loop-oid : goal.invariant-loop-oid
invariant-loop-oid l = l.copies.items ≡ take l.oid-index l.fn.oids
