-- For what purposes a key is used (RFC 5280, 4.2.1.12; RFC 8209, 3.1.3.2).
use Rattle.std.specs.Prelude.{ℕ, Bool, bytes_eq, Option, None, Some, List, [], ◌∷◌}
use Rattle.std.specs.List.{list_any}
use Rattle.rpki_common.specs.Chaining.{◌>>=◌}
use Rattle.rpki_der.specs.Tags.{sequence}
use Rattle.rpki_der.specs.Value.{Value}
use Rattle.rpki_der.specs.Grammar.{within, every}
use Rattle.rpki_der.specs.Oid.{oid}
use Rattle.rpki_cert.specs.ObjectIdentifiers as names

-- at least one
abbrev pub some_of : List (List ℕ) → Option (List (List ℕ))
some_of [] = None
some_of (purpose ∷ more) = Some (purpose ∷ more)

--     ExtKeyUsageSyntax ::= SEQUENCE SIZE (1..MAX) OF KeyPurposeId
--     KeyPurposeId ::= OBJECT IDENTIFIER
unfoldable pub extended_key_usage : Value → Option (List (List ℕ))
extended_key_usage = within sequence (λ vs. every oid vs >>= some_of)

-- one of the purposes is that of a BGPsec router
abbrev pub has_router : List (List ℕ) → Bool
has_router purposes = list_any (λ purpose. bytes_eq purpose names.bgpsec_router) purposes
