-- Algorithm identifiers with NULL or without parameters (RFC 5280, 4.1.1.2; RFC 4055, 2.1 and 5).
use Rattle.std.specs.Prelude.{ℕ, Bool, true, false, is_some, Option, List, [], ◌++◌}
use Rattle.rpki_common.specs.Chaining.{◌>>=◌}
use Rattle.rpki_der.specs.Tags.{sequence, null_tag, oid_tag}
use Rattle.rpki_der.specs.Value.{Value}
use Rattle.rpki_der.specs.Grammar.{within, first, optional, done}
use Rattle.rpki_der.specs.Oid.{oid}
use Rattle.rpki_der.specs.Null.{null}
use Rattle.rpki_der.specs.Writing.{der_primitive, der_constructed}

--     AlgorithmIdentifier ::= SEQUENCE {
--       algorithm OBJECT IDENTIFIER,
--       parameters ANY DEFINED BY algorithm OPTIONAL }
--
-- the contents of the object identifier, and whether NULL is there
unfoldable pub algorithm_identifier : Value → Option (List ℕ × Bool)
algorithm_identifier = within sequence (λ vs. do
  name ← first oid vs
  parameter ← optional null_tag null name.1
  done (name.0, is_some parameter.0) parameter.1)

-- an algorithm's identifier in DER, with NULL or without
abbrev pub spelled_identifier : List ℕ → Bool → List ℕ
spelled_identifier name true = der_constructed sequence
    (der_primitive oid_tag name ++ der_primitive null_tag [])
spelled_identifier name false = der_constructed sequence (der_primitive oid_tag name)
