-- Sets of numbers in attributes (RFC 6492, 3.3.2 and 3.4.1): those that a client holds, and those
-- that are asked for.
use Rattle.std.specs.Prelude.{ℕ, List, [], ◌∷◌, ◌++◌, Option, Some, codes, unwrap_or}
use Rattle.std.specs.Option.{option_map}
use Rattle.rpki_common.specs.Chaining.{◌>>=◌}
use Rattle.rpki_xmltext.specs.Parts.{attribute}
use Rattle.rpki_sets.specs.declared.run.Run.{Run}
use Rattle.rpki_sets.specs.AsNumbers.{as_blocks, as_text}
use Rattle.rpki_sets.specs.Ipv4Addresses.{ipv4_blocks, ipv4_blocks_text}
use Rattle.rpki_sets.specs.Ipv6Addresses.{ipv6_blocks, ipv6_blocks_text}
use Rattle.rpki_sets.specs.Resources.{Resources}
use Rattle.rpki_updown.specs.RequestResourceLimit.{LimitFields}
use Rattle.rpki_xml.specs.Draft.{optional_attribute}
use Rattle.rpki_xml.specs.Element.{Attribute, Head}
use Rattle.rpki_xml.specs.Tables.{optional_by}

-- ---- what is asked for: an attribute that is missing states nothing, and an empty one the empty
-- set

-- the attributes that are written of a limit: one for each kind of which it states a set
abbrev pub limit_attributes : LimitFields → List Attribute
limit_attributes limit =
    optional_attribute (codes "req_resource_set_as") (option_map as_text limit.asn)
    ++ (optional_attribute (codes "req_resource_set_ipv4") (option_map ipv4_blocks_text limit.ipv4)
    ++ optional_attribute (codes "req_resource_set_ipv6") (option_map ipv6_blocks_text limit.ipv6))

-- the limit that the attributes of an element state
unfoldable pub limit_in : Head → Option LimitFields
limit_in h = do
  asn ← optional_by as_blocks (codes "req_resource_set_as") h
  ipv4 ← optional_by ipv4_blocks (codes "req_resource_set_ipv4") h
  ipv6 ← optional_by ipv6_blocks (codes "req_resource_set_ipv6") h
  Some (record { asn = asn; ipv4 = ipv4; ipv6 = ipv6 })

-- ---- what is held: an attribute that is missing says the empty set; all three are written

-- the attributes that are written of resources: one for each of the three kinds
abbrev pub set_attributes : Resources → List Attribute
set_attributes set =
    attribute (codes "resource_set_as") (as_text set.asn)
    ∷ attribute (codes "resource_set_ipv4") (ipv4_blocks_text set.ipv4)
    ∷ attribute (codes "resource_set_ipv6") (ipv6_blocks_text set.ipv6)
    ∷ []

-- the set that is said, or the empty one where none is
abbrev pub set_or_empty : Option (List Run) → Option (List Run)
set_or_empty set = Some (unwrap_or set [])

-- the set in this attribute, or the empty one where the attribute is missing
unfoldable pub set_in : (List ℕ → Option (List Run)) → List ℕ → Head → Option (List Run)
set_in blocks local h = optional_by blocks local h >>= set_or_empty

-- the resources that the attributes of an element say
unfoldable pub resources_in : Head → Option Resources
resources_in h = do
  asn ← set_in as_blocks (codes "resource_set_as") h
  ipv4 ← set_in ipv4_blocks (codes "resource_set_ipv4") h
  ipv6 ← set_in ipv6_blocks (codes "resource_set_ipv6") h
  Some (record { asn = asn; ipv4 = ipv4; ipv6 = ipv6 })
