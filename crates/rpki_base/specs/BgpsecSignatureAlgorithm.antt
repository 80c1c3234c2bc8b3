-- The signature algorithm of BGPsec: ECDSA over SHA-256, without parameters (RFC 8208, 2; RFC 5758,
-- 3.2).
use Rattle.std.specs.Prelude.{ℕ, Bool, true, false, Option, None, List}
use Rattle.rpki_der.specs.Value.{Value}
use Rattle.rpki_der.specs.Grammar.{so, exactly}
use Rattle.rpki_base.specs.ObjectIdentifiers.{ecdsa_with_sha256}
use Rattle.rpki_base.specs.AlgorithmIdentifier.{algorithm_identifier, spelled_identifier}

-- without NULL
abbrev pub router_meaning : List ℕ × Bool → Option (Unit {0})
router_meaning (name, true) = None
router_meaning (name, false) = exactly ecdsa_with_sha256 name

-- the algorithm identifier of ecdsa-with-SHA256, without parameters
unfoldable pub router_algorithm : Value → Option (Unit {0})
router_algorithm = so algorithm_identifier router_meaning

-- the algorithm identifier of ecdsa-with-SHA256, without parameters, in DER
abbrev pub spelled_router : List ℕ
spelled_router = spelled_identifier ecdsa_with_sha256 false
