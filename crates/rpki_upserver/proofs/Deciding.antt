-- What is decided, row by row.
use Rattle.std.proofs.Common.{◌≡◌, ◌||◌, ◌<◌, ℕ, Bool, true, false, Option, None, Some, IsSome, List, length, get_or, set, inl, inr, refl, sym, ap, subst, ◌∙◌, arith}
use Rattle.std.specs.Prelude.{is_some, position, slice_get}
use Rattle.std.proofs.lemmas.Option.{slice_get-get_or}
use Rattle.std.proofs.lemmas.List.Quantifiers.{position-Some}
use Rattle.rpki_base.specs.Scheme.{Relation}
use Rattle.rpki_xml.specs.Content.{trimmed}
use Rattle.rpki_updown.specs.Entitlements.{CaRequest, IssuanceRequestFields}
use Rattle.rpki_updown.specs.KeyElement.{KeyElementFields}
use Rattle.rpki_updown.specs.NotPerformedResponse.{reason as words_of}
use Rattle.rpki_provisioning.specs.Writable.{IsWritableKey, IsWritableNotPerformed}
use Rattle.rpki_provisioning.specs.declared.payload.Payload.{Payload}
use Rattle.rpki_provisioning.specs.declared.payload.Payload.TheVariants as payloads
use Rattle.rpki_upserver.specs.declared.decision.Decision.{Decision}
use Rattle.rpki_upserver.specs.declared.decision.Decision.TheVariants as decisions
use Rattle.rpki_upserver.specs.declared.decision.Reason.{Reason}
use Rattle.rpki_upserver.specs.declared.decision.Reason.TheVariants as reasons
use Rattle.rpki_upserver.specs.declared.issuer.IssuerError.TheVariants as errors
use Rattle.rpki_upserver.specs.Answering.{with_issuer}
use Rattle.rpki_upserver.specs.Decision.{IsDecidedBy, IsFirstReason, status_of}
use Rattle.rpki_upserver.specs.Issuer.{IsRevoked, IssuerFails, IssuerState}
use Rattle.rpki_upserver.specs.Response.{IsEmpty, IsPayloadAnswer, IsSelfSigned, IsRevokeAnswer, Outcome, refusal, requested_key}
use Rattle.rpki_upserver.specs.Table.{AreDistinctClasses, ClassState, ParentState, Table, change, class_named, is_issued_elsewhere, is_issued_in, is_named, is_revoked, with_revoked, with_table}
use Rattle.rpki_upserver.proofs.Tables.{changed_at, named_at, same_set, unnamed}
use Rattle.rpki_upserver.proofs.Told.{clash, named_name}

-- ---- refusals

pub refusal_writable : (reason : Reason) → IsWritableNotPerformed (record { status = status_of reason; description = words_of (status_of reason) })
unfolding trimmed
refusal_writable reasons.UnknownType = record { status = omega arith; description = refl; trimmed = refl }
refusal_writable reasons.NoClass = record { status = omega arith; description = refl; trimmed = refl }
refusal_writable reasons.NoResources = record { status = omega arith; description = refl; trimmed = refl }
refusal_writable reasons.BadRequest = record { status = omega arith; description = refl; trimmed = refl }
refusal_writable reasons.UsedKey = record { status = omega arith; description = refl; trimmed = refl }
refusal_writable reasons.NoClassToRevoke = record { status = omega arith; description = refl; trimmed = refl }
refusal_writable reasons.NoKeyToRevoke = record { status = omega arith; description = refl; trimmed = refl }
refusal_writable reasons.ServerError = record { status = omega arith; description = refl; trimmed = refl }

-- an outcome with a table and an issuer
abbrev pub comes_as : Payload → Table → IssuerState → IssuerState → Outcome
comes_as payload next before after = record { payload = payload; next = next; before = before; after = after }

same_table : (p after : ParentState) → after ≡ p → after ≡ with_table after.table p
same_table p after e = subst (λ (q : ParentState). after ≡ with_table after.table q) e refl

pub not_performed : (comes : Outcome → Type 0) (p after : ParentState) (before issuer : IssuerState) (reason : Reason) → after ≡ p → comes (comes_as (refusal (status_of reason)) p.table before issuer) → IsDecidedBy comes (with_issuer p before) (with_issuer after issuer) (decisions.NotPerformed reason)
not_performed comes p after before issuer reason same h = record {
  payload = refusal (status_of reason);
  said = refl;
  writable = refusal_writable reason;
  response = subst (λ (t : Table). comes (comes_as (refusal (status_of reason)) t before issuer)) (sym (ap (λ (q : ParentState). q.table) same)) h;
  behind = same_table p after same;
}

-- ---- the request to revoke

module _ (scheme : Relation) (table : Table) (request : KeyElementFields) where
  abbrev pub RevokeComes : Outcome → Type 0
  RevokeComes o = IsPayloadAnswer scheme table (payloads.Revoke request) o

  by_named : (found : Option ClassState) (o : Outcome) → class_named request.class_name table ≡ found → IsRevokeAnswer table request found o → RevokeComes o
  by_named found o named h = subst (λ (f : Option ClassState). IsRevokeAnswer table request f o) (sym named) h

  pub revoke_unnamed : (issuer : IssuerState) → class_named request.class_name table ≡ None → RevokeComes (comes_as (refusal 1301) table issuer issuer)
  revoke_unnamed issuer named = by_named None _ named (record { payload = refl; stays = record { next = refl; issuer = refl } })

  pub revoke_unheld : (issuer : IssuerState) (c : ClassState) → class_named request.class_name table ≡ Some c → (is_issued_in request.key c ≡ true → ⊥) → RevokeComes (comes_as (refusal 1302) table issuer issuer)
  revoke_unheld issuer c named none = by_named (Some c) _ named (inr (none, record { payload = refl; stays = record { next = refl; issuer = refl } }))

  pub revoke_fails : (before after : IssuerState) (c : ClassState) → class_named request.class_name table ≡ Some c → is_issued_in request.key c ≡ true → IssuerFails before after errors.Failed → RevokeComes (comes_as (refusal 2001) table before after)
  revoke_fails before after c named held fails = by_named (Some c) _ named (inl (held, inl (record { payload = refl; next = refl; leaves = fails.0; rose = fails.1 })))

  pub revoke_done : (before after : IssuerState) (c : ClassState) (next : Table) → class_named request.class_name table ≡ Some c → is_issued_in request.key c ≡ true → IsRevoked request.class_name request.key before after
      → next ≡ change request.class_name (with_revoked request.key) table → RevokeComes (comes_as (payloads.RevokeResponse request) next before after)
  revoke_done before after c next named held revoked next_is = by_named (Some c) _ named (inl (held, inr (record { revoked = revoked; payload = refl; next = next_is })))

-- ---- the request to revoke by the code, at the place of a class

-- the parent with another class at a place
abbrev pub with_class : ParentState → ℕ → ClassState → ParentState
with_class p place new = record p { table = set p.table place new }

module _ (before now : ParentState) (asked name : List ℕ) (classes : Table) (o : Option ℕ) where
  -- the class of this name was looked for
  pub record IsSought : Type 0 where
    pub view : before ≡ now
    pub named : name ≡ asked
    pub lent : classes ≡ before.table
    pub found : o ≡ position (is_named name) classes

  pub sought : IsSought → (wanted : Option ℕ) → o ≡ wanted → position (is_named asked) before.table ≡ wanted
  sought s wanted is = ap (λ (n : List ℕ). position (is_named n) before.table) (sym s.named) ∙ ap (λ (t : Table). position (is_named name) t) (sym s.lent) ∙ sym s.found ∙ is

  pub not_there : IsSought → o ≡ None → class_named asked now.table ≡ None
  not_there s is = subst (λ (q : ParentState). class_named asked q.table ≡ None) s.view (unnamed before.table asked (sought s None is))

  module _ (place : ℕ) (c : ClassState) (s : IsSought) (is : o ≡ Some place) (at : c ≡ get_or before.table place c) where
    pub there : class_named asked before.table ≡ Some c
    there = named_at before.table asked place c (sought s (Some place) is) at

    pub within : place < length before.table
    within = (position-Some (is_named asked) before.table place c (sought s (Some place) is)).0

    pub left_so : (new : ClassState) → new ≡ c → with_class before place new ≡ before
    left_so new same = ap (λ (t : Table). record before { table = t }) (same_set before.table place c new within at same)

    pub changed_so : (new : ClassState) (f : ClassState → ClassState) → AreDistinctClasses before.table → new ≡ f c → set before.table place new ≡ change asked f before.table
    changed_so new f distinct new_is = changed_at before.table asked place c new f distinct (sought s (Some place) is) at new_is

-- seen from the parent as the call found it
pub seen_from : (comes : Table → Outcome → Type 0) (before now after : ParentState) (issuer next : IssuerState) (d : Decision) → before ≡ now → IsDecidedBy (comes before.table) (with_issuer before issuer) (with_issuer after next) d
    → IsDecidedBy (comes now.table) (with_issuer now issuer) (with_issuer after next) d
seen_from comes before now after issuer next d view h = subst (λ (q : ParentState). IsDecidedBy (comes q.table) (with_issuer q issuer) (with_issuer after next) d) view h

module _ (scheme : Relation) (before now : ParentState) (request : KeyElementFields) where
  abbrev Comes : Table → Outcome → Type 0
  Comes table = RevokeComes scheme table request

  pub no_class_to_revoke : (issuer : IssuerState) → class_named request.class_name now.table ≡ None → IsDecidedBy (Comes now.table) (with_issuer now issuer) (with_issuer now issuer) (decisions.NotPerformed reasons.NoClassToRevoke)
  no_class_to_revoke issuer none = not_performed (Comes now.table) now now issuer issuer reasons.NoClassToRevoke refl (revoke_unnamed scheme now.table request issuer none)

  module _ (c : ClassState) (view : before ≡ now) (there : class_named request.class_name before.table ≡ Some c) where
    pub no_key_to_revoke : (issuer : IssuerState) (after : ParentState) (key : List ℕ) (o : Option ℕ) → after ≡ before → key ≡ request.key → (is_issued_in key c ≡ true → IsSome o) → o ≡ None
        → IsDecidedBy (Comes now.table) (with_issuer now issuer) (with_issuer after issuer) (decisions.NotPerformed reasons.NoKeyToRevoke)
    no_key_to_revoke issuer after key o same is issued none =
        seen_from Comes before now after issuer issuer (decisions.NotPerformed reasons.NoKeyToRevoke) view
        (not_performed (Comes before.table) before after issuer issuer reasons.NoKeyToRevoke same
        (revoke_unheld scheme before.table request issuer c there (λ held. let e : false ≡ true = sym (ap is_some none) ∙ issued (subst (λ (k : List ℕ). is_issued_in k c ≡ true) (sym is) held) in cc)))

    pub not_revoked : (issuer next : IssuerState) (after : ParentState) (key : List ℕ) → after ≡ before → key ≡ request.key → is_issued_in key c ≡ true → IssuerFails issuer next errors.Failed
        → IsDecidedBy (Comes now.table) (with_issuer now issuer) (with_issuer after next) (decisions.NotPerformed reasons.ServerError)
    not_revoked issuer next after key same is held fails =
        seen_from Comes before now after issuer next (decisions.NotPerformed reasons.ServerError) view
        (not_performed (Comes before.table) before after issuer next reasons.ServerError same
        (revoke_fails scheme before.table request issuer next c there (subst (λ (k : List ℕ). is_issued_in k c ≡ true) is held) fails))

    pub revoked : (issuer next : IssuerState) (table : Table) (key other : List ℕ) (told : KeyElementFields) → key ≡ request.key → is_issued_in key c ≡ true → other ≡ request.key → IsRevoked c.class_name other issuer next
        → table ≡ change request.class_name (with_revoked other) before.table → told ≡ request → IsWritableKey request
        → IsDecidedBy (Comes now.table) (with_issuer now issuer) (with_issuer (record before { table = table }) next) (decisions.Revoked told)
    revoked issuer next table key other told is held other_is by next_is told_is writable =
        seen_from Comes before now (record before { table = table }) issuer next (decisions.Revoked told) view (record {
          payload = payloads.RevokeResponse request;
          said = ap (λ (k : KeyElementFields). payloads.RevokeResponse k) (sym told_is);
          writable = writable;
          response = revoke_done scheme before.table request issuer next c table there (subst (λ (k : List ℕ). is_issued_in k c ≡ true) is held)
              (subst (λ (n : List ℕ). IsRevoked n request.key issuer next) (named_name request.class_name before.table c there) (subst (λ (k : List ℕ). IsRevoked c.class_name k issuer next) other_is by))
              (next_is ∙ ap (λ (k : List ℕ). change request.class_name (with_revoked k) before.table) other_is);
          behind = refl;
        })

-- ---- the certificate request

same_class : (table : Table) (place : ℕ) (c x : ClassState) → place < length table → c ≡ get_or table place c → slice_get table place ≡ Some x → x ≡ c
same_class table place c x lt at is = let e : Some (get_or table place c) ≡ Some x = sym (slice_get-get_or table place c lt) ∙ is in let same : x ≡ get_or table place c = cc in same ∙ sym at

-- no row before the limit refuses
pub no_reason : (scheme : Relation) (before now : ParentState) (classes : Table) (request : IssuanceRequestFields) (place : ℕ) (c x : ClassState) (is_empty used : Bool) (proven : CaRequest) (name key : List ℕ) → before ≡ now → place < length now.table → c ≡ get_or before.table place c
    → slice_get now.table place ≡ Some x → (IsEmpty c.resource_set → is_empty ≡ true) → is_empty ≡ false → IsSelfSigned scheme proven → proven ≡ request.csr → classes ≡ before.table → name ≡ request.class_name → key ≡ requested_key request
    → used ≡ (is_revoked key classes || is_issued_elsewhere name key classes) → used ≡ false → IsFirstReason scheme now.table request x None
no_reason scheme before now classes request place c x is_empty used proven name key view lt at is empty not_empty holds asked lent named key_is used_is unused =
    inr (λ e. clash is_empty (empty (subst (λ (y : ClassState). IsEmpty y.resource_set) same e)) not_empty, inl (subst (λ (q : CaRequest). IsSelfSigned scheme q) asked holds, inr (λ u. clash _ u none, refl)))
  where
    same : x ≡ c
    same = same_class now.table place c x lt (subst (λ (q : ParentState). c ≡ get_or q.table place c) view at) is

    none : (is_revoked (requested_key request) now.table || is_issued_elsewhere request.class_name (requested_key request) now.table) ≡ false
    none = subst (λ (k : List ℕ). (is_revoked k now.table || is_issued_elsewhere request.class_name k now.table) ≡ false) key_is
        (subst (λ (n : List ℕ). (is_revoked key now.table || is_issued_elsewhere n key now.table) ≡ false) named
        (subst (λ (t : Table). (is_revoked key t || is_issued_elsewhere name key t) ≡ false) (lent ∙ ap (λ (q : ParentState). q.table) view) (sym used_is ∙ unused)))
