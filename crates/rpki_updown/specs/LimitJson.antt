-- Limits as JSON objects: the members `asn`, `ipv4` or `v4`, and `ipv6` or `v6`.
use Rattle.std.specs.Prelude.{ℕ, Bool, true, false, ◌&&◌, ◌||◌, if◌then◌else◌, List, Option, None, Some, codes}
use Rattle.std.specs.Str.{bytes_eq}
use Rattle.serde_json.specs.Data.{Data, Members, no_members, member}
use Rattle.serde_json.specs.Find.{get, as_str, as_object}
use Rattle.serde_json.specs.Read.{read}
use Rattle.rpki_common.specs.Chaining.{◌>>=◌}
use Rattle.rpki_sets.specs.declared.run.Run.{Run}
use Rattle.rpki_sets.specs.AsNumbers.{as_blocks}
use Rattle.rpki_sets.specs.Ipv4Addresses.{ipv4_blocks}
use Rattle.rpki_sets.specs.Ipv6Addresses.{ipv6_blocks}
use Rattle.rpki_updown.specs.RequestResourceLimit.{LimitFields}

-- what a text states of a kind: nothing where it is `none`, else the set that it stands for
abbrev pub stated_in_text : (List ℕ → Option (List Run)) → List ℕ → Option (Option (List Run))
stated_in_text blocks text =
    if bytes_eq text (codes "none") then Some None else blocks text >>= λ set. Some (Some set)

-- what a value states of a kind, which has to be a string
unfoldable pub stated_in : (List ℕ → Option (List Run)) → Data → Option (Option (List Run))
stated_in blocks value = as_str value >>= stated_in_text blocks

-- what the member of a kind states, which may have either of two names; where it is absent nothing,
-- and not both can be there
abbrev pub stated : (List ℕ → Option (List Run)) → Option Data → Option Data
    → Option (Option (List Run))
stated blocks None None = Some None
stated blocks (Some value) None = stated_in blocks value
stated blocks None (Some value) = stated_in blocks value
stated blocks (Some value) (Some other) = None

-- whether the name is one that a member of a limit may have
abbrev pub is_limit_name : List ℕ → Bool
is_limit_name name =
    bytes_eq name (codes "asn") || bytes_eq name (codes "ipv4") || bytes_eq name (codes "v4")
    || bytes_eq name (codes "ipv6") || bytes_eq name (codes "v6")

-- each member has one of these names
abbrev pub have_limit_names : Members → Bool
have_limit_names no_members = true
have_limit_names (member name value more) = is_limit_name name && have_limit_names more

-- there are members, and each has one of these names
abbrev pub are_limit_names : Option Members → Bool
are_limit_names None = false
are_limit_names (Some members) = have_limit_names members

-- what the three kinds state in an object
unfoldable pub limit_stated : Data → Option LimitFields
limit_stated value = do
  asn ← stated as_blocks (get (codes "asn") value) None
  ipv4 ← stated ipv4_blocks (get (codes "ipv4") value) (get (codes "v4") value)
  ipv6 ← stated ipv6_blocks (get (codes "ipv6") value) (get (codes "v6") value)
  Some (record { asn = asn; ipv4 = ipv4; ipv6 = ipv6 })

-- the limit that an object states, which has no other members
unfoldable pub limit_of_value : Data → Option LimitFields
limit_of_value value = if are_limit_names (as_object value) then limit_stated value else None

-- The limit that a JSON text states. Of members of one name the text's last counts.
unfoldable pub limit_of_json : List ℕ → Option LimitFields
limit_of_json text = read text >>= limit_of_value
