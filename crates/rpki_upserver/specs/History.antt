-- Many messages to a parent, one behind the other.
use Rattle.std.specs.Prelude.{◌≡◌, ◌&&◌, ⊤, ℕ, Bool, false, bytes_eq, if◌then◌else◌, Option, None, Some, List, [], ◌∷◌, ◌++◌, find}
use Rattle.std.specs.List.{AllByRecursion, list_any}
use Rattle.rpki_base.specs.Scheme.{Relation}
use Rattle.rpki_sets.specs.Resources.{Resources}
use Rattle.rpki_sets.specs.Runs.{Includes}
use Rattle.rpki_updown.specs.Entitlements.{IssuanceFields, IssuedFields}
use Rattle.rpki_updown.specs.KeyElement.{KeyElementFields}
use Rattle.rpki_provisioning.specs.Shape.{MessageFields}
use Rattle.rpki_provisioning.specs.declared.payload.Payload.{Payload}
use Rattle.rpki_provisioning.specs.declared.payload.Payload.TheVariants as payloads
use Rattle.rpki_upserver.specs.Issuer.{IssuerState, Made}
use Rattle.rpki_upserver.specs.Response.{IsResponse, Outcome}
use Rattle.rpki_upserver.specs.Table.{ClassState, ParentState, Table, class_named, has_key, key_of_issued, with_table}

-- a message, and what came of it
pub record Call : Type 0 where
  pub message : MessageFields
  pub outcome : Outcome

-- each call came of the parent and the issuer that the calls before it left
abbrev pub AreMade : Relation → ParentState → IssuerState → List Call → Type 0
AreMade scheme p issuer [] = ⊤
AreMade scheme p issuer (call ∷ calls) =
    (call.outcome.before ≡ issuer)
    × (IsResponse scheme p call.message call.outcome
    × AreMade scheme (with_table call.outcome.next p) call.outcome.after calls)

-- the table that they leave
abbrev pub table_behind : Table → List Call → Table
table_behind table [] = table
table_behind table (call ∷ calls) = table_behind call.outcome.next calls

-- ---- what was issued

-- the outcome added this entry to what was issued
abbrev pub Adds : Outcome → Made → Type 0
Adds o made = o.after.made ≡ o.before.made ++ made ∷ []

-- all resources of the one are among those of the other
pub record IsPartOf (part whole : Resources) : Type 0 where
  pub asn : Includes whole.asn part.asn
  pub ipv4 : Includes whole.ipv4 part.ipv4
  pub ipv6 : Includes whole.ipv6 part.ipv6

-- the entry is for resources that the child has in its class, until the time of the class
pub record IsEntitled (table : Table) (made : Made) : Type 0 where
  pub c : ClassState
  pub named : class_named made.class_name table ≡ Some c
  pub within : IsPartOf made.resource_set c.resource_set
  pub until : made.not_after ≡ c.not_after

-- ---- what stands, by what was replied

-- nothing was issued in the classes
abbrev pub AreNew : Table → Type 0
AreNew table = AllByRecursion (λ c. c.issued_certs ≡ []) table

-- the certificate that a reply brings is of this class and this key
abbrev pub is_certified_by : List ℕ → List ℕ → IssuanceFields → Bool
is_certified_by name key r = bytes_eq r.class_name name && has_key key r.issued_cert

-- the key that a reply says is revoked is this one of this class
abbrev pub is_revoked_by : List ℕ → List ℕ → KeyElementFields → Bool
is_revoked_by name key k = bytes_eq k.class_name name && bytes_eq k.key key

-- the certificate of a class and a key behind a reply, where this stood before it
abbrev pub last_issued_behind : List ℕ → List ℕ → Payload → Option IssuedFields
    → Option IssuedFields
last_issued_behind name key (payloads.IssueResponse r) before =
    if is_certified_by name key r then Some r.issued_cert else before
last_issued_behind name key (payloads.RevokeResponse k) before =
    if is_revoked_by name key k then None else before
last_issued_behind name key other before = before

-- the certificate of a class and a key behind all replies: the last one that was issued, unless it
-- was revoked since
abbrev pub last_issued : List ℕ → List ℕ → List Call → Option IssuedFields → Option IssuedFields
last_issued name key [] before = before
last_issued name key (call ∷ calls) before =
    last_issued name key calls (last_issued_behind name key call.outcome.payload before)

-- what the table says of each class and each key
abbrev pub ListsAs : Table → (List ℕ → List ℕ → Option IssuedFields) → Type 0
ListsAs table stands = (name key : List ℕ) (c : ClassState) → class_named name table ≡ Some c
    → find (has_key key) c.issued_certs ≡ stands name key

-- no two of the certificates have one key
abbrev pub AreOnce : List IssuedFields → Type 0
AreOnce [] = ⊤
AreOnce (issued ∷ more) = (list_any (has_key (key_of_issued issued)) more ≡ false) × AreOnce more

-- each class holds at most one certificate of a key
abbrev pub AreAllOnce : Table → Type 0
AreAllOnce table = AllByRecursion (λ c. AreOnce c.issued_certs) table
