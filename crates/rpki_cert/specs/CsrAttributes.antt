-- The attributes of a request, which are one: the extensions that it asks for (RFC 2986, 4.1;
-- RFC 2985, 5.4.2; RFC 6487, 6.1.1).
use Rattle.std.specs.Prelude.{ℕ, Bool, if◌then◌else◌, Option, None, Some, List}
use Rattle.rpki_common.specs.Chaining.{◌>>=◌}
use Rattle.rpki_der.specs.declared.mode.Mode.{Mode}
use Rattle.rpki_der.specs.Tags.{sequence, set, context}
use Rattle.rpki_der.specs.Value.{Value}
use Rattle.rpki_der.specs.Grammar.{within, first, done, wrapped, so}
use Rattle.rpki_der.specs.Oid.{oid_is}
use Rattle.rpki_cert.specs.declared.key_usage.KeyUsage.{KeyUsage}
use Rattle.rpki_cert.specs.ObjectIdentifiers as names
use Rattle.rpki_cert.specs.ExtendedKeyUsage.{has_router}
use Rattle.rpki_cert.specs.Access.{AccessFields}
use Rattle.rpki_cert.specs.Extensions.{RequestedExtensions, extension_list}

--     Attribute ::= SEQUENCE {
--       type OBJECT IDENTIFIER,
--       values SET SIZE (1) OF Extensions }
unfoldable pub extension_request : Mode → Value → Option RequestedExtensions
extension_request mode = within sequence (λ vs. do
  kind ← first (oid_is names.extension_request) vs
  extensions ← first (wrapped set (extension_list mode)) kind.1
  done extensions.0 extensions.1)

-- attributes [0] Attributes
unfoldable pub attributes : Mode → Value → Option RequestedExtensions
attributes mode = wrapped (context 0) (extension_request mode)

-- ---- those of an authority (RFC 6487, 6.3)

-- what an authority asks for: whether it may be a CA, its key usage, its purposes if they are
-- there, and where it publishes
pub record CaAttributes : Type 0 where
  pub basic_ca : Bool
  pub key_usage : KeyUsage
  pub extended_key_usage : Option (List (List ℕ))
  pub access : AccessFields

-- basicConstraints, keyUsage and subjectInfoAccess have to be there
unfoldable pub of_authority : RequestedExtensions → Option CaAttributes
of_authority r = do
  ca ← r.basic_ca
  usage ← r.key_usage
  access ← r.access
  Some (record {
    basic_ca = ca;
    key_usage = usage;
    extended_key_usage = r.extended_key_usage;
    access = access;
  })

-- the attributes of an authority's request
unfoldable pub ca_attributes : Mode → Value → Option CaAttributes
ca_attributes mode = so (attributes mode) of_authority

-- ---- those of a BGPsec router (RFC 8209, 3.2)

-- extKeyUsage, if it is there, names the router's purpose
abbrev pub routed : Option (List (List ℕ)) → Option (Option (List (List ℕ)))
routed None = Some None
routed (Some purposes) = if has_router purposes then Some (Some purposes) else None

-- of a router's extensions extKeyUsage counts; the others are read
unfoldable pub of_router : RequestedExtensions → Option (Option (List (List ℕ)))
of_router r = routed r.extended_key_usage

-- the attributes of a BGPsec router's request
unfoldable pub router_attributes : Mode → Value → Option (Option (List (List ℕ)))
router_attributes mode = so (attributes mode) of_router
