-- A signature scheme of a caller's own.
use Rattle.std.specs.Prelude.{◌≤◌, length}
use Rattle.rpki_base.specs.Scheme.{Relation}
use Rattle.rpki_signer.specs.Toy.{ToyChecks}

-- The key has 16 octets or more, and the signature is one of the toy scheme.
abbrev pub LongChecks : Relation
LongChecks kind key message signature =
    (16 ≤ length key.bits) × ToyChecks kind key message signature
