-- What is decided on a request for a certificate, row by row.
use Rattle.std.proofs.Common.{◌≡◌, ◌<◌, ℕ, Option, None, Some, List, [], ◌∷◌, length, get_or, set, suc, zero, inl, inr, refl, sym, ap, subst, ◌∙◌, arith}
use Rattle.std.specs.Prelude.{slice_get}
use Rattle.std.specs.List.{AllByRecursion}
use Rattle.std.proofs.lemmas.List.{get_or-set_same, length-set}
use Rattle.std.proofs.lemmas.Option.{slice_get-get_or, slice_get_within}
use Rattle.rpki_base.specs.Scheme.{Relation}
use Rattle.rpki_sets.specs.Resources.{Resources}
use Rattle.rpki_updown.specs.Entitlements.{IssuanceRequestFields, IssuedFields, issuance}
use Rattle.rpki_updown.specs.RequestResourceLimit.{IsContained, LimitFields, limited_set}
use Rattle.rpki_provisioning.specs.Writable.{IsWritableClass, IsWritableIssuance, IsWritableIssued}
use Rattle.rpki_provisioning.specs.declared.payload.Payload.{Payload}
use Rattle.rpki_provisioning.specs.declared.payload.Payload.TheVariants as payloads
use Rattle.rpki_upserver.specs.declared.decision.Decision.TheVariants as decisions
use Rattle.rpki_upserver.specs.declared.decision.Reason.{Reason}
use Rattle.rpki_upserver.specs.declared.decision.Reason.TheVariants as reasons
use Rattle.rpki_upserver.specs.declared.issuer.IssuerError.TheVariants as errors
use Rattle.rpki_upserver.specs.Answering.{with_issuer}
use Rattle.rpki_upserver.specs.Decision.{IsDecidedBy, IsFirstReason, IsIssuedAt, status_of}
use Rattle.rpki_upserver.specs.Issuer.{IsCertificateIssued, IssuerFails, IssuerState}
use Rattle.rpki_upserver.specs.Response.{IsEmpty, IsIssueAnswer, IsPayloadAnswer, IsSelfSigned, IsUsed, Outcome, RefusesRequest, published, refusal, requested_key}
use Rattle.rpki_upserver.specs.Table.{ClassState, ParentState, Table, change, class_named, entitled, with_issued}
use Rattle.rpki_upserver.proofs.Deciding.{comes_as, not_performed, seen_from, with_class}
use Rattle.rpki_upserver.proofs.Told.{named_name}

-- ---- the rows

refuses_as : (status : ℕ) (table : Table) (issuer : IssuerState) (reason : Reason) → status_of reason ≡ status → RefusesRequest status table (comes_as (refusal (status_of reason)) table issuer issuer)
refuses_as status table issuer reason e = record { payload = ap refusal e; stays = record { next = refl; issuer = refl } }

same_reason : (result : Option Reason) (one other : Reason) → result ≡ Some one → result ≡ Some other → status_of one ≡ status_of other
same_reason result one other a b = let e : Some one ≡ Some other = sym a ∙ b in let same : one ≡ other = cc in ap status_of same

module _ (scheme : Relation) (table : Table) (request : IssuanceRequestFields) where
  abbrev pub IssueComes : Outcome → Type 0
  IssueComes o = IsPayloadAnswer scheme table (payloads.Issue request) o

  by_class : (found : Option ClassState) (o : Outcome) → class_named request.class_name table ≡ found → IsIssueAnswer scheme table request found o → IssueComes o
  by_class found o named h = subst (λ (f : Option ClassState). IsIssueAnswer scheme table request f o) (sym named) h

  issue_unnamed : (issuer : IssuerState) → class_named request.class_name table ≡ None → IssueComes (comes_as (refusal 1201) table issuer issuer)
  issue_unnamed issuer named = by_class None _ named (refuses_as 1201 table issuer reasons.NoClass refl)

  module _ (c : ClassState) (named : class_named request.class_name table ≡ Some c) (result : Option Reason) where
    issue_refused : (issuer : IssuerState) (reason : Reason) → IsFirstReason scheme table request c result → result ≡ Some reason → IssueComes (comes_as (refusal (status_of reason)) table issuer issuer)
    issue_refused issuer reason (inl (empty, is)) told = by_class (Some c) _ named (inl (empty, refuses_as 1202 table issuer reason (same_reason result reason reasons.NoResources told is)))
    issue_refused issuer reason (inr (some, inr (unproven, is))) told = by_class (Some c) _ named (inr (some, inr (unproven, refuses_as 1203 table issuer reason (same_reason result reason reasons.BadRequest told is))))
    issue_refused issuer reason (inr (some, inl (proven, inl (used, is)))) told = by_class (Some c) _ named (inr (some, inl (proven, inl (used, refuses_as 1204 table issuer reason (same_reason result reason reasons.UsedKey told is)))))
    issue_refused issuer reason (inr (some, inl (proven, inr (unused, is)))) told = let e : None ≡ Some reason = sym is ∙ told in cc

    record IsAllowed : Type 0 where
      some : IsEmpty c.resource_set → ⊥
      proven : IsSelfSigned scheme request.csr
      unused : IsUsed request.class_name (requested_key request) table → ⊥

    allowed : IsFirstReason scheme table request c result → result ≡ None → IsAllowed
    allowed (inl (empty, is)) none = let e : Some reasons.NoResources ≡ None = sym is ∙ none in cc
    allowed (inr (some, inr (unproven, is))) none = let e : Some reasons.BadRequest ≡ None = sym is ∙ none in cc
    allowed (inr (some, inl (proven, inl (used, is)))) none = let e : Some reasons.UsedKey ≡ None = sym is ∙ none in cc
    allowed (inr (some, inl (proven, inr (unused, is)))) none = record { some = some; proven = proven; unused = unused }

    issue_limited : (issuer : IssuerState) → IsAllowed → (IsContained request.limit c.resource_set → ⊥) → IssueComes (comes_as (refusal 1202) table issuer issuer)
    issue_limited issuer a more = by_class (Some c) _ named (inr (a.some, inl (a.proven, inr (a.unused, inr (more, refuses_as 1202 table issuer reasons.NoResources refl)))))

    issue_fails : (before after : IssuerState) → IsAllowed → IsContained request.limit c.resource_set → IssuerFails before after errors.Failed → IssueComes (comes_as (refusal 2001) table before after)
    issue_fails before after a contained fails = by_class (Some c) _ named (inr (a.some, inl (a.proven, inr (a.unused, inl (contained, inl (record { payload = refl; next = refl; leaves = fails.0; rose = fails.1 }))))))

    issue_done : (before after : IssuerState) (next : Table) (new : ClassState) (at : ℕ) → IsAllowed → IsContained request.limit c.resource_set → (i : IsIssuedAt c request (limited_set request.limit c.resource_set) before after new at)
        → next ≡ change request.class_name (with_issued (published c request i.cert)) table → IssueComes (comes_as (payloads.IssueResponse (issuance (entitled c) (published c request i.cert))) next before after)
    issue_done before after next new at a contained i next_is = by_class (Some c) _ named (inr (
      a.some,
      inl (
        a.proven,
        inr (
          a.unused,
          inl (
            contained,
            inr (record {
              cert = i.cert;
              issued = subst (λ (n : List ℕ). IsCertificateIssued n request.csr (limited_set request.limit c.resource_set) c.not_after before after i.cert) (named_name request.class_name table c named) i.issued;
              payload = refl;
              next = next_is;
            }),
          ),
        ),
      ),
    ))

-- ---- what is told of a certificate can be written

got_holds : (P : IssuedFields → Type 0) (xs : List IssuedFields) (i : ℕ) (x d : IssuedFields) → i < length xs → get_or xs i d ≡ x → AllByRecursion P xs → P x
got_holds P [] i x d lt is all = let e : i < 0 = lt in absurd (omega (arith, e))
got_holds P (y ∷ ys) zero x d lt is all = subst P is all.0
got_holds P (y ∷ ys) (suc i) x d lt is all = got_holds P ys i x d (omega (arith, lt)) is all.1

issuance_writable : (c : ClassState) (at : ℕ) (issued : IssuedFields) → slice_get c.issued_certs at ≡ Some issued → IsWritableClass (entitled c) → IsWritableIssuance (issuance (entitled c) issued)
issuance_writable c at issued stands w =
    let lt : at < length c.issued_certs = slice_get_within c.issued_certs at issued stands in
    let e : Some (get_or c.issued_certs at issued) ≡ Some issued = sym (slice_get-get_or c.issued_certs at issued lt) ∙ stands in
    let same : get_or c.issued_certs at issued ≡ issued = cc in
    record {
      class_name = w.class_name;
      resource_set = w.resource_set;
      not_after = w.not_after;
      issued_cert = got_holds IsWritableIssued c.issued_certs at issued issued lt same w.issued_certs;
      signing_cert = w.signing_cert;
    }

set_stands : (table : Table) (place : ℕ) (new : ClassState) → place < length table → slice_get (set table place new) place ≡ Some new
set_stands table place new lt =
    let long = length-set table place new in
    slice_get-get_or (set table place new) place new (omega (arith, lt, long)) ∙ ap (λ (x : ClassState). Some x) (get_or-set_same table place new new lt)

-- ---- by the code

module _ (scheme : Relation) (before now : ParentState) (request : IssuanceRequestFields) where
  abbrev Comes : Table → Outcome → Type 0
  Comes table = IssueComes scheme table request

  pub no_class : (issuer : IssuerState) → class_named request.class_name now.table ≡ None → IsDecidedBy (Comes now.table) (with_issuer now issuer) (with_issuer now issuer) (decisions.NotPerformed reasons.NoClass)
  no_class issuer none = not_performed (Comes now.table) now now issuer issuer reasons.NoClass refl (issue_unnamed scheme now.table request issuer none)

  module _ (c : ClassState) (view : before ≡ now) (there : class_named request.class_name before.table ≡ Some c) (result : Option Reason) (first : IsFirstReason scheme now.table request c result) where
    first_before : IsFirstReason scheme before.table request c result
    first_before = subst (λ (q : ParentState). IsFirstReason scheme q.table request c result) (sym view) first

    pub first_refuses : (issuer : IssuerState) (reason : Reason) → result ≡ Some reason → IsDecidedBy (Comes now.table) (with_issuer now issuer) (with_issuer now issuer) (decisions.NotPerformed reason)
    first_refuses issuer reason told =
        seen_from Comes before now now issuer issuer (decisions.NotPerformed reason) view
        (not_performed (Comes before.table) before now issuer issuer reason (sym view) (issue_refused scheme before.table request c there result issuer reason first_before told))

    module _ (none : result ≡ None) where
      is_allowed : IsAllowed scheme before.table request c there result
      is_allowed = allowed scheme before.table request c there result first_before none

      pub more_than_held : (issuer : IssuerState) (after : ParentState) → after ≡ before → (IsContained request.limit c.resource_set → ⊥) → IsDecidedBy (Comes now.table) (with_issuer now issuer) (with_issuer after issuer) (decisions.NotPerformed reasons.NoResources)
      more_than_held issuer after same more =
          seen_from Comes before now after issuer issuer (decisions.NotPerformed reasons.NoResources) view
          (not_performed (Comes before.table) before after issuer issuer reasons.NoResources same (issue_limited scheme before.table request c there result issuer is_allowed more))

      pub not_issued : (issuer next : IssuerState) (after : ParentState) → after ≡ before → IsContained request.limit c.resource_set → IssuerFails issuer next errors.Failed
          → IsDecidedBy (Comes now.table) (with_issuer now issuer) (with_issuer after next) (decisions.NotPerformed reasons.ServerError)
      not_issued issuer next after same contained fails =
          seen_from Comes before now after issuer next (decisions.NotPerformed reasons.ServerError) view
          (not_performed (Comes before.table) before after issuer next reasons.ServerError same (issue_fails scheme before.table request c there result issuer next is_allowed contained fails))

      pub issued : (issuer next : IssuerState) (place at : ℕ) (new : ClassState) (set' : Resources) → place < length before.table → IsContained request.limit c.resource_set → set' ≡ limited_set request.limit c.resource_set
          → (i : IsIssuedAt c request set' issuer next new at) → set before.table place new ≡ change request.class_name (with_issued (published c request i.cert)) before.table → IsWritableClass (entitled new)
          → IsDecidedBy (Comes now.table) (with_issuer now issuer) (with_issuer (with_class before place new) next) (decisions.Issued place at)
      issued issuer next place at new set' lt contained left i next_is writable =
          seen_from Comes before now (with_class before place new) issuer next (decisions.Issued place at) view (record {
            payload = payload;
            said = record {
              c = new;
              stands = set_stands before.table place new lt;
              issued = published c request i.cert;
              at = i.at;
              is = alike;
            };
            writable = subst IsWritableIssuance told (issuance_writable new at (published c request i.cert) i.at writable);
            response = issue_done scheme before.table request c there result issuer next (set before.table place new) new at is_allowed contained by_limit next_is;
            behind = refl;
          })
        where
          payload : Payload
          payload = payloads.IssueResponse (issuance (entitled c) (published c request i.cert))

          told : issuance (entitled new) (published c request i.cert) ≡ issuance (entitled c) (published c request i.cert)
          told = ap (λ (x : ClassState). issuance (entitled x) (published c request i.cert)) i.kept

          alike : payloads.IssueResponse (issuance (entitled c) (published c request i.cert)) ≡ payloads.IssueResponse (issuance (entitled new) (published c request i.cert))
          alike = ap (λ x. payloads.IssueResponse x) (sym told)

          by_limit : IsIssuedAt c request (limited_set request.limit c.resource_set) issuer next new at
          by_limit = record {
            cert = i.cert;
            issued = subst (λ (s : Resources). IsCertificateIssued c.class_name request.csr s c.not_after issuer next i.cert) left i.issued;
            kept = i.kept;
            at = i.at;
          }

-- ---- a class stands at each place

pub standing : (table : Table) (place : ℕ) → place < length table → (c : ClassState) × (c ≡ get_or table place c)
standing [] place lt = let e : place < 0 = lt in absurd (omega (arith, e))
standing (x ∷ xs) zero lt = (x, refl)
standing (x ∷ xs) (suc i) lt = standing xs i (omega (arith, lt))

pub got_from : (before now : ParentState) (place : ℕ) (c : ClassState) → before ≡ now → place < length before.table → c ≡ get_or before.table place c → slice_get now.table place ≡ Some c
got_from before now place c view lt at = subst (λ (q : ParentState). slice_get q.table place ≡ Some c) view (slice_get-get_or before.table place c lt ∙ ap (λ (x : ClassState). Some x) (sym at))

-- what a limit says of a set, of that of the request and of the class
pub limit_alike : (P : LimitFields → Resources → Type 0) (limit asked : LimitFields) (set' held : Resources) → limit ≡ asked → set' ≡ held → P limit set' → P asked held
limit_alike P limit asked set' held a b h = subst (λ (s : Resources). P asked s) b (subst (λ (l : LimitFields). P l set') a h)
