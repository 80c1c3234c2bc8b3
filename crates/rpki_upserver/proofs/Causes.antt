-- Why the error 2001 is answered.
use Rattle.std.proofs.Common.{◌≡◌, ◌⊎◌, ℕ, Option, None, Some, inl, inr, sym, ap, ◌∙◌, arith}
use Rattle.rpki_base.specs.Scheme.{Relation}
use Rattle.rpki_common.specs.Causes.{Rose}
use Rattle.rpki_updown.specs.Entitlements.{IssuanceRequestFields}
use Rattle.rpki_updown.specs.KeyElement.{KeyElementFields}
use Rattle.rpki_provisioning.specs.Shape.{MessageFields}
use Rattle.rpki_provisioning.specs.declared.payload.Payload.{Payload}
use Rattle.rpki_provisioning.specs.declared.payload.Payload.TheVariants as payloads
use Rattle.rpki_upserver.specs.Response.{IsFromChild, IsIssueAnswer, IsPayloadAnswer, IsResponse, IsRevokeAnswer, Outcome, RefusesRequest, refusal}
use Rattle.rpki_upserver.specs.Table.{ClassState, ParentState, Table, class_named}

-- the status of a payload that says that something wasn't performed
abbrev pub status_in : Payload → ℕ
status_in (payloads.ErrorResponse response) = response.status
status_in other = 0

-- another reason is told by another status
another : (status : ℕ) (table : Table) (o : Outcome) → RefusesRequest status table o → o.payload ≡ refusal 2001 → status ≡ 2001
another status table o r is = ap status_in (sym r.payload ∙ is)

abbrev pub HasRisen : Outcome → Type 0
HasRisen o = Rose o.before.faults o.after.faults

issue_rose : (scheme : Relation) (table : Table) (request : IssuanceRequestFields) (found : Option ClassState) (o : Outcome) → IsIssueAnswer scheme table request found o → o.payload ≡ refusal 2001 → HasRisen o
issue_rose scheme table request None o a is = let e = another 1201 table o a is in absurd (omega (arith, e))
issue_rose scheme table request (Some c) o (inl empty) is = let e = another 1202 table o empty.1 is in absurd (omega (arith, e))
issue_rose scheme table request (Some c) o (inr (some, inr unproven)) is = let e = another 1203 table o unproven.1 is in absurd (omega (arith, e))
issue_rose scheme table request (Some c) o (inr (some, inl (proven, inl used))) is = let e = another 1204 table o used.1 is in absurd (omega (arith, e))
issue_rose scheme table request (Some c) o (inr (some, inl (proven, inr (unused, inr more)))) is = let e = another 1202 table o more.1 is in absurd (omega (arith, e))
issue_rose scheme table request (Some c) o (inr (some, inl (proven, inr (unused, inl (contained, inl fails))))) is = fails.rose
issue_rose scheme table request (Some c) o (inr (some, inl (proven, inr (unused, inl (contained, inr issues))))) is = let e : payloads.IssueResponse _ ≡ refusal 2001 = sym issues.payload ∙ is in cc

revoke_rose : (table : Table) (request : KeyElementFields) (found : Option ClassState) (o : Outcome) → IsRevokeAnswer table request found o → o.payload ≡ refusal 2001 → HasRisen o
revoke_rose table request None o a is = let e = another 1301 table o a is in absurd (omega (arith, e))
revoke_rose table request (Some c) o (inr none) is = let e = another 1302 table o none.1 is in absurd (omega (arith, e))
revoke_rose table request (Some c) o (inl (held, inl fails)) is = fails.rose
revoke_rose table request (Some c) o (inl (held, inr revokes)) is = let e : payloads.RevokeResponse _ ≡ refusal 2001 = sym revokes.payload ∙ is in cc

payload_rose : (scheme : Relation) (table : Table) (asked : Payload) (o : Outcome) → IsPayloadAnswer scheme table asked o → o.payload ≡ refusal 2001 → HasRisen o
payload_rose scheme table payloads.List o a is = let e : payloads.ListResponse _ ≡ refusal 2001 = sym a.payload ∙ is in cc
payload_rose scheme table (payloads.Issue request) o a is = issue_rose scheme table request (class_named request.class_name table) o a is
payload_rose scheme table (payloads.Revoke request) o a is = revoke_rose table request (class_named request.class_name table) o a is
payload_rose scheme table (payloads.ListResponse classes) o a is = let e = another 1103 table o a is in absurd (omega (arith, e))
payload_rose scheme table (payloads.IssueResponse response) o a is = let e = another 1103 table o a is in absurd (omega (arith, e))
payload_rose scheme table (payloads.RevokeResponse key) o a is = let e = another 1103 table o a is in absurd (omega (arith, e))
payload_rose scheme table (payloads.ErrorResponse response) o a is = let e = another 1103 table o a is in absurd (omega (arith, e))

pub wrong_or_rose : (scheme : Relation) (p : ParentState) (m : MessageFields) (o : Outcome) → IsResponse scheme p m o → o.payload ≡ refusal 2001 → (IsFromChild p m → ⊥) ⊎ HasRisen o
wrong_or_rose scheme p m o (inl (from, answer)) is = inr (payload_rose scheme p.table m.payload o answer is)
wrong_or_rose scheme p m o (inr (other, refuses)) is = inl other
