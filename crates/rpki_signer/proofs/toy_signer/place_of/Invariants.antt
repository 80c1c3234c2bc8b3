use Rattle.std.proofs.Common.{◌≡◌, drop}
use Rattle.rpki_signer.specs.ToySigner as spec
use Rattle.rpki_signer.proofs.toy_signer.place_of.Given as goal

abbrev pub invariant-loop-place : goal.invariant-loop-place
invariant-loop-place l = spec.key_numbered (drop l.place l.fn.keys) l.fn.number ≡ spec.key_numbered l.fn.keys l.fn.number
