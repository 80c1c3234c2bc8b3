use Rattle.std.proofs.Common.{◌≡◌, drop}
use Rattle.rpki_signer.specs.ToySigner as spec
use Rattle.rpki_signer.proofs.toy_signer.key_numbered.Given as goal

abbrev pub invariant-loop-key : goal.invariant-loop-key
invariant-loop-key l = spec.key_numbered (drop l.key-index l.fn.keys) l.fn.number ≡ spec.key_numbered l.fn.keys l.fn.number
