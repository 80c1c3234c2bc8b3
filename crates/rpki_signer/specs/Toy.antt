-- A signature scheme without security. Anybody who knows a key can sign under it.
use Rattle.std.specs.Prelude.{◌≡◌, ℕ, List, ◌++◌}
use Rattle.std.specs.Int.{to_be_bytes, w64}
use Rattle.sha2.specs.Sha256.{sha256}
use Rattle.rpki_base.specs.Scheme.{Relation}
use Rattle.rpki_base.specs.declared.algorithm.PublicKeyFormat.TheVariants.{Rsa}
use Rattle.rpki_base.specs.Algorithm.{format_of}
use Rattle.rpki_base.specs.PublicKey.{KeyFields}

-- the octets that stand for a signature: the SHA-256 of the key's bits and the message behind them
abbrev pub toy_signature : KeyFields → List ℕ → List ℕ
toy_signature key message = sha256 (key.bits ++ message)

-- The key has the kind's format, and the signature is that digest.
abbrev pub ToyChecks : Relation
ToyChecks kind key message signature =
    (key.format ≡ format_of kind) × (signature ≡ toy_signature key message)

-- key number k of a seed: an RSA key with eight octets of each as its bits, the most significant
-- first
abbrev pub toy_key : ℕ → ℕ → KeyFields
toy_key seed number = record { format = Rsa; bits = to_be_bytes w64 seed ++ to_be_bytes w64 number }
