-- What comes of one message: nothing is issued and nothing revoked, or one certificate is issued, or one key revoked.
use Rattle.std.proofs.Common.{◌≡◌, ◌⊎◌, ℕ, Option, None, Some, List, [], ◌∷◌, ◌++◌, inl, inr, refl, sym, ap, subst, ◌∙◌, arith}
use Rattle.rpki_base.specs.Scheme.{Relation}
use Rattle.rpki_sets.specs.declared.run.Run.{Run}
use Rattle.rpki_sets.specs.Runs.{Includes}
use Rattle.rpki_updown.specs.Entitlements.{IssuanceRequestFields}
use Rattle.rpki_updown.specs.KeyElement.{KeyElementFields}
use Rattle.rpki_updown.specs.RequestResourceLimit.{HasStated, IsContained, limited, limited_set}
use Rattle.rpki_provisioning.specs.Shape.{MessageFields}
use Rattle.rpki_provisioning.specs.declared.payload.Payload.{Payload}
use Rattle.rpki_provisioning.specs.declared.payload.Payload.TheVariants as payloads
use Rattle.rpki_upserver.specs.History.{Adds, IsEntitled}
use Rattle.rpki_upserver.specs.Issuer.{IssuerState, IssuedNothing, Made}
use Rattle.rpki_upserver.specs.Response.{FailsIssuing, IsIssueAnswer, IsPayloadAnswer, IsResponse, IsRevokeAnswer, IsUsed, Issues, Lists, Outcome, RefusesRequest, Revokes, requested_key}
use Rattle.rpki_upserver.specs.Table.{ClassState, ParentState, Table, class_named}

-- it brings no certificate, and says of no key that it was revoked
abbrev pub IsOther : Payload → Type 0
IsOther (payloads.IssueResponse response) = ⊥
IsOther (payloads.RevokeResponse key) = ⊥
IsOther other = Unit {0}

pub record HasLeft (table : Table) (o : Outcome) : Type 0 where
  pub next : o.next ≡ table
  pub leaves : IssuedNothing o.before o.after
  pub says : IsOther o.payload

pub record HasIssued (table : Table) (o : Outcome) : Type 0 where
  pub request : IssuanceRequestFields
  pub c : ClassState
  pub named : class_named request.class_name table ≡ Some c
  pub unused : IsUsed request.class_name (requested_key request) table → ⊥
  pub contained : IsContained request.limit c.resource_set
  pub issues : Issues table c request o

pub record HasRevoked (table : Table) (o : Outcome) : Type 0 where
  pub request : KeyElementFields
  pub c : ClassState
  pub named : class_named request.class_name table ≡ Some c
  pub revokes : Revokes table request o

abbrev pub HasCome : Table → Outcome → Type 0
HasCome table o = HasLeft table o ⊎ (HasIssued table o ⊎ HasRevoked table o)

-- ---- row by row

same_leaves : (before after : IssuerState) → after ≡ before → IssuedNothing before after
same_leaves before after e =
    let count : after.faults ≡ before.faults = ap (λ (s : IssuerState). s.faults) e in
    record {
      made = ap (λ (s : IssuerState). s.made) e;
      gone = ap (λ (s : IssuerState). s.gone) e;
      faults = omega (arith, count);
    }

refused_left : (status : ℕ) (table : Table) (o : Outcome) → RefusesRequest status table o → HasLeft table o
refused_left status table o r = record {
  next = r.stays.next;
  leaves = same_leaves o.before o.after r.stays.issuer;
  says = subst IsOther (sym r.payload) tt;
}

listed_left : (table : Table) (o : Outcome) → Lists table o → HasLeft table o
listed_left table o l = record {
  next = l.stays.next;
  leaves = same_leaves o.before o.after l.stays.issuer;
  says = subst IsOther (sym l.payload) tt;
}

failed_left : (table : Table) (o : Outcome) → FailsIssuing table o → HasLeft table o
failed_left table o f = record { next = f.next; leaves = f.leaves; says = subst IsOther (sym f.payload) tt }

issue_came : (scheme : Relation) (table : Table) (request : IssuanceRequestFields) (found : Option ClassState) (o : Outcome) → class_named request.class_name table ≡ found → IsIssueAnswer scheme table request found o → HasCome table o
issue_came scheme table request None o named a = inl (refused_left 1201 table o a)
issue_came scheme table request (Some c) o named (inl empty) = inl (refused_left 1202 table o empty.1)
issue_came scheme table request (Some c) o named (inr (some, inr unproven)) = inl (refused_left 1203 table o unproven.1)
issue_came scheme table request (Some c) o named (inr (some, inl (proven, inl used))) = inl (refused_left 1204 table o used.1)
issue_came scheme table request (Some c) o named (inr (some, inl (proven, inr (unused, inr more)))) = inl (refused_left 1202 table o more.1)
issue_came scheme table request (Some c) o named (inr (some, inl (proven, inr (unused, inl (contained, inl fails))))) = inl (failed_left table o fails)
issue_came scheme table request (Some c) o named (inr (some, inl (proven, inr (unused, inl (contained, inr issues))))) =
    inr (inl (record { request = request; c = c; named = named; unused = unused; contained = contained; issues = issues }))

revoke_came : (table : Table) (request : KeyElementFields) (found : Option ClassState) (o : Outcome) → class_named request.class_name table ≡ found → IsRevokeAnswer table request found o → HasCome table o
revoke_came table request None o named a = inl (refused_left 1301 table o a)
revoke_came table request (Some c) o named (inr none) = inl (refused_left 1302 table o none.1)
revoke_came table request (Some c) o named (inl (held, inl fails)) = inl (failed_left table o fails)
revoke_came table request (Some c) o named (inl (held, inr revokes)) = inr (inr (record { request = request; c = c; named = named; revokes = revokes }))

payload_came : (scheme : Relation) (table : Table) (asked : Payload) (o : Outcome) → IsPayloadAnswer scheme table asked o → HasCome table o
payload_came scheme table payloads.List o a = inl (listed_left table o a)
payload_came scheme table (payloads.Issue request) o a = issue_came scheme table request (class_named request.class_name table) o refl a
payload_came scheme table (payloads.Revoke request) o a = revoke_came table request (class_named request.class_name table) o refl a
payload_came scheme table (payloads.ListResponse classes) o a = inl (refused_left 1103 table o a)
payload_came scheme table (payloads.IssueResponse response) o a = inl (refused_left 1103 table o a)
payload_came scheme table (payloads.RevokeResponse key) o a = inl (refused_left 1103 table o a)
payload_came scheme table (payloads.ErrorResponse response) o a = inl (refused_left 1103 table o a)

pub came : (scheme : Relation) (p : ParentState) (m : MessageFields) (o : Outcome) → IsResponse scheme p m o → HasCome p.table o
came scheme p m o (inl (from, answer)) = payload_came scheme p.table m.payload o answer
came scheme p m o (inr other) = inl (refused_left 2001 p.table o other.1)

-- ---- what is added to what was issued

no_longer : {X : Type 0} (xs : List X) (x : X) → xs ≡ xs ++ x ∷ [] → ⊥
no_longer [] x e = cc
no_longer (y ∷ ys) x e = let t : ys ≡ ys ++ x ∷ [] = cc in no_longer ys x t

same_last : {X : Type 0} (xs : List X) (x y : X) → xs ++ x ∷ [] ≡ xs ++ y ∷ [] → x ≡ y
same_last [] x y e = cc
same_last (z ∷ zs) x y e = let t : zs ++ x ∷ [] ≡ zs ++ y ∷ [] = cc in same_last zs x y t

pub left_adds_nothing : (table : Table) (o : Outcome) (made : Made) → HasLeft table o → Adds o made → ⊥
left_adds_nothing table o made h adds = no_longer o.before.made made (sym h.leaves.made ∙ adds)

pub revoked_adds_nothing : (table : Table) (o : Outcome) (made : Made) → HasRevoked table o → Adds o made → ⊥
revoked_adds_nothing table o made h adds = no_longer o.before.made made (sym h.revokes.revoked.made ∙ adds)

-- the entry of the certificate that a request asks for
abbrev pub entry_of : (table : Table) (o : Outcome) → HasIssued table o → Made
entry_of table o h = record {
  class_name = h.request.class_name;
  key = requested_key h.request;
  resource_set = limited_set h.request.limit h.c.resource_set;
  not_after = h.c.not_after;
  slice = h.issues.cert.slice;
}

pub added_is : (table : Table) (o : Outcome) (made : Made) (h : HasIssued table o) → Adds o made → made ≡ entry_of table o h
added_is table o made h adds = same_last o.before.made made (entry_of table o h) (sym adds ∙ h.issues.issued.made)

-- ---- no certificate is beyond its class

within_kind : (stated : Option (List Run)) (held : List Run) → HasStated stated held → Includes held (limited stated held)
within_kind None held h = λ n has. has
within_kind (Some runs) held h = h

pub within_class : (scheme : Relation) (p : ParentState) (m : MessageFields) (o : Outcome) (made : Made) → IsResponse scheme p m o → Adds o made → IsEntitled p.table made
within_class scheme p m o made response adds =
    elim (came scheme p m o response) [
      | inl left ↦ absurd (left_adds_nothing p.table o made left adds)
      | inr (inr revoked) ↦ absurd (revoked_adds_nothing p.table o made revoked adds)
      | inr (inl h) ↦ subst (λ (e : Made). IsEntitled p.table e) (sym (added_is p.table o made h adds)) (record {
        c = h.c;
        named = h.named;
        within = record {
          asn = within_kind h.request.limit.asn h.c.resource_set.asn h.contained.asn;
          ipv4 = within_kind h.request.limit.ipv4 h.c.resource_set.ipv4 h.contained.ipv4;
          ipv6 = within_kind h.request.limit.ipv6 h.c.resource_set.ipv6 h.contained.ipv6;
        };
        until = refl;
      })
    ]
