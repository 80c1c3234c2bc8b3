-- What comes of a message, and how it is said.
use Rattle.std.proofs.Common.{◌≡◌, ℕ, ℤ, Some, List, [], ◌∷◌, map, get_or, inl, inr, refl, sym, ap, subst, ◌∙◌}
use Rattle.std.specs.Prelude.{slice_get}
use Rattle.std.specs.List.{AllByRecursion}
use Rattle.std.proofs.lemmas.Option.{slice_get-get_or, slice_get_within}
use Rattle.rpki_base.specs.Scheme.{Relation}
use Rattle.rpki_updown.specs.Entitlements.{IssuanceFields, IssuanceRequestFields, IssuedFields, issuance}
use Rattle.rpki_updown.specs.KeyElement.{KeyElementFields}
use Rattle.rpki_provisioning.specs.Shape.{MessageFields}
use Rattle.rpki_provisioning.specs.Writable.{IsWritable, IsWritableClass, IsWritablePayload}
use Rattle.rpki_provisioning.specs.declared.payload.Payload.{Payload}
use Rattle.rpki_provisioning.specs.declared.payload.Payload.TheVariants as payloads
use Rattle.rpki_upserver.specs.declared.decision.Decision.{Decision}
use Rattle.rpki_upserver.specs.declared.decision.Decision.TheVariants as decisions
use Rattle.rpki_upserver.specs.declared.decision.Reason.TheVariants as reasons
use Rattle.rpki_provisioning.specs.Cms.{CmsFields}
use Rattle.rpki_ca.specs.Acceptance.{Accepted}
use Rattle.rpki_ca.specs.Seen.{SignerSeen}
use Rattle.rpki_ca.specs.declared.receiving.Kind.TheVariants as kinds
use Rattle.rpki_ca.specs.declared.receiving.Received.TheVariants as received
use Rattle.rpki_upserver.specs.Answering.{IsRequestAnswered, IsDecided, IsSignedResponse, reply, with_issuer}
use Rattle.rpki_upserver.specs.Decision.{IsDecidedBy, IsIssuance, IsPayloadOf}
use Rattle.rpki_upserver.specs.Issuer.{IssuerState}
use Rattle.rpki_upserver.specs.Response.{IsFromChild, IsPayloadAnswer, IsResponse, refusal}
use Rattle.rpki_upserver.specs.Table.{AreWritable, ClassState, IsParent, ParentState, Table, entitled}
use Rattle.rpki_upserver.proofs.Deciding.{comes_as, not_performed}

-- ---- messages

module _ (scheme : Relation) (p : ParentState) (m : MessageFields) (issuer : IssuerState) where
  pub to_others : (IsFromChild p m → ⊥) → IsDecidedBy (IsResponse scheme p m) (with_issuer p issuer) (with_issuer p issuer) (decisions.NotPerformed reasons.ServerError)
  to_others other = not_performed (IsResponse scheme p m) p p issuer issuer reasons.ServerError refl (inr (other, record { payload = refl; stays = record { next = refl; issuer = refl } }))

  all_told : (table : Table) → AreWritable table → AllByRecursion IsWritableClass (map entitled table)
  all_told [] w = tt
  all_told (c ∷ more) w = (w.0, all_told more w.1)

  pub listed : IsFromChild p m → m.payload ≡ payloads.List → AreWritable p.table → IsDecidedBy (IsResponse scheme p m) (with_issuer p issuer) (with_issuer p issuer) decisions.Listed
  listed from asked writable = record {
    payload = payloads.ListResponse (map entitled p.table);
    said = refl;
    writable = all_told p.table writable;
    response = inl (from, subst (λ (x : Payload). IsPayloadAnswer scheme p.table x (comes_as (payloads.ListResponse (map entitled p.table)) p.table issuer issuer)) (sym asked) (record { payload = refl; stays = record { next = refl; issuer = refl } }));
    behind = refl;
  }

  unknown_payload : (x : Payload) → (x ≡ payloads.List → ⊥) → ((request : IssuanceRequestFields) → x ≡ payloads.Issue request → ⊥) → ((key : KeyElementFields) → x ≡ payloads.Revoke key → ⊥) → IsPayloadAnswer scheme p.table x (comes_as (refusal 1103) p.table issuer issuer)
  unknown_payload payloads.List no_list no_issue no_revoke = absurd (no_list refl)
  unknown_payload (payloads.Issue request) no_list no_issue no_revoke = absurd (no_issue request refl)
  unknown_payload (payloads.Revoke key) no_list no_issue no_revoke = absurd (no_revoke key refl)
  unknown_payload (payloads.ListResponse classes) no_list no_issue no_revoke = record { payload = refl; stays = record { next = refl; issuer = refl } }
  unknown_payload (payloads.IssueResponse response) no_list no_issue no_revoke = record { payload = refl; stays = record { next = refl; issuer = refl } }
  unknown_payload (payloads.RevokeResponse key) no_list no_issue no_revoke = record { payload = refl; stays = record { next = refl; issuer = refl } }
  unknown_payload (payloads.ErrorResponse response) no_list no_issue no_revoke = record { payload = refl; stays = record { next = refl; issuer = refl } }

  pub unknown : (x : Payload) → x ≡ m.payload → IsFromChild p m → (x ≡ payloads.List → ⊥) → ((request : IssuanceRequestFields) → x ≡ payloads.Issue request → ⊥) → ((key : KeyElementFields) → x ≡ payloads.Revoke key → ⊥)
      → IsDecidedBy (IsResponse scheme p m) (with_issuer p issuer) (with_issuer p issuer) (decisions.NotPerformed reasons.UnknownType)
  unknown x is from no_list no_issue no_revoke =
      not_performed (IsResponse scheme p m) p p issuer issuer reasons.UnknownType refl
      (inl (from, subst (λ (y : Payload). IsPayloadAnswer scheme p.table y (comes_as (refusal 1103) p.table issuer issuer)) is (unknown_payload x no_list no_issue no_revoke)))

-- ---- a reply

-- the message of these parts is the reply
pub is_reply : (before now : ParentState) (m : MessageFields) (sender recipient : List ℕ) (said payload : Payload) → before ≡ now → m ≡ record { sender = sender; recipient = recipient; payload = said } → sender ≡ before.me → recipient ≡ before.child → said ≡ payload → m ≡ reply now payload
is_reply before now m sender recipient said payload view is me child same =
    is ∙ ap (λ (s : List ℕ). record { sender = s; recipient = recipient; payload = said }) me ∙ ap (λ (r : List ℕ). record { sender = before.me; recipient = r; payload = said }) child
    ∙ ap (λ (x : Payload). record { sender = before.me; recipient = before.child; payload = x }) same ∙ ap (λ (q : ParentState). reply q payload) view

pub reply_writable : (p : ParentState) (payload : Payload) → IsParent p.me p.child p.table → IsWritablePayload payload → IsWritable (reply p payload)
reply_writable p payload h w = record { sender = h.me_is; recipient = h.child_is; payload = w }

-- the certificate at a place is the one that is told
pub issued_told : (table : Table) (class_place place : ℕ) (c : ClassState) (response : IssuanceFields) (payload : Payload) → c ≡ get_or table class_place c → ((issued : IssuedFields) → slice_get c.issued_certs place ≡ Some issued → response ≡ issuance (entitled c) issued)
    → IsIssuance table class_place place payload → payloads.IssueResponse response ≡ payload
issued_told table class_place place c response payload at told h =
    let lt = slice_get_within table class_place h.c h.stands in
    let e : Some (get_or table class_place c) ≡ Some h.c = sym (slice_get-get_or table class_place c lt) ∙ h.stands in
    let there : get_or table class_place c ≡ h.c = cc in
    let same : c ≡ h.c = at ∙ there in
    ap (λ (i : IssuanceFields). payloads.IssueResponse i) (told h.issued (ap (λ (x : ClassState). slice_get x.issued_certs place) same ∙ h.at) ∙ ap (λ (x : ClassState). issuance (entitled x) h.issued) same) ∙ sym h.is

-- ---- what is answered

-- the octets were accepted, and this was decided
pub decided_so : {scheme : Relation} {octets : List ℕ} {when : ℤ} (before after : ParentState) (m : MessageFields) (issuer next : IssuerState) (d : Decision) → Accepted scheme kinds.Provisioning octets (before.child_key ∷ []) when (received.Provisioning m)
    → (h : IsDecidedBy (IsResponse scheme before m) (with_issuer before issuer) (with_issuer after next) d) → IsDecided scheme octets when (with_issuer before issuer) (with_issuer after next) h.payload
decided_so before after m issuer next d accepted h = record { message = m; accepted = accepted; next = after.table; response = h.response; behind = h.behind }

pub answered_so : {I : Type 0} (scheme : Relation) (octets : List ℕ) (when : ℤ) (signer : SignerSeen I) (before after : ParentState) (m : MessageFields) (issuer next : IssuerState) (d : Decision) (c : CmsFields)
    → Accepted scheme kinds.Provisioning octets (before.child_key ∷ []) when (received.Provisioning m)
    → IsDecidedBy (IsResponse scheme before m) (with_issuer before issuer) (with_issuer after next) d
    → ((payload : Payload) → IsPayloadOf after.table d payload → IsSignedResponse scheme when signer (reply after payload) c) → IsRequestAnswered scheme octets when (with_issuer before issuer) (with_issuer after next) signer c
answered_so scheme octets when signer before after m issuer next d c accepted h signed = record {
  payload = h.payload;
  decided = decided_so before after m issuer next d accepted h;
  signed = subst (λ (x : MessageFields). IsSignedResponse scheme when signer x c) (ap (λ (p : ParentState). reply p h.payload) h.behind) (signed h.payload h.said);
}
