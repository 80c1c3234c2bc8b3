-- What a reply leaves.
use Rattle.std.proofs.Common.{◌≡◌, ℕ, ℤ, Option, None, Some, Result, Ok, Err, List, [], ◌∷◌, refl, sym, ap, subst, ◌∙◌}
use Rattle.std.specs.Prelude.{OnErr, OnOk}
use Rattle.rpki_base.specs.Scheme.{Relation}
use Rattle.rpki_publication.specs.declared.message.Message.TheVariants as messages
use Rattle.rpki_publication.specs.declared.publish_delta_element.PublishDeltaElement.{PublishDeltaElement}
use Rattle.rpki_publication.specs.declared.query.Query.TheVariants as queries
use Rattle.rpki_publication.specs.declared.report_error_code.ReportErrorCode.{ReportErrorCode}
use Rattle.rpki_ca.specs.Acceptance.{Accepted, IsReceived}
use Rattle.rpki_ca.specs.declared.receiving.Kind.TheVariants as kinds
use Rattle.rpki_ca.specs.declared.receiving.Received.{Received}
use Rattle.rpki_ca.specs.declared.receiving.Received.TheVariants as received
use Rattle.rpki_ca.specs.declared.receiving.ReceiveError.{ReceiveError}
use Rattle.rpki_ca.specs.declared.receiving.ReceiveError.TheVariants as errors
use Rattle.rpki_ca.proofs.Laws.{one_received}
use Rattle.rpki_pubserver.specs.Changes.{Refused, after_all, changed, code_of, refused_or}
use Rattle.rpki_pubserver.specs.Replies.{Reply, reply_to, reply_to_changes, reply_to_delta}
use Rattle.rpki_pubserver.specs.Server.{IsReply, ServerFields}
use Rattle.rpki_pubserver.specs.Store.{IsStore, LieUnder, Store}
use Rattle.rpki_pubserver.proofs.Lying.{lie_made}
use Rattle.rpki_pubserver.proofs.Ordered.{changed_ordered}

refused_leaves : (base : List ℕ) (store : Store) (e : ReceiveError) → (reply_to base store (Err e)).next ≡ store
refused_leaves base store errors.CmsDecode = refl
refused_leaves base store errors.XmlError = refl
refused_leaves base store errors.InvalidCsrSyntax = refl
refused_leaves base store errors.CertSyntax = refl
refused_leaves base store (errors.Validation failed) = refl
refused_leaves base store errors.OutOfMemory = refl

pub unaccepted_leaves : (scheme : Relation) (server : ServerFields) (octets : List ℕ) (when : ℤ) (reply : Reply) → IsReply scheme server octets when reply
    → ((message : Received) → Accepted scheme kinds.Publication octets (server.publisher ∷ []) when message → ⊥) → reply.next ≡ server.store
unaccepted_leaves scheme server octets when reply is none = ap (λ (r : Reply). r.next) is.is ∙ by is.result is.received
  where
    by : (r : Result Received ReceiveError) → IsReceived scheme kinds.Publication octets (server.publisher ∷ []) when r → (reply_to server.base server.store r).next ≡ server.store
    by (Ok m) accepted = absurd (none m accepted)
    by (Err e) refused = refused_leaves server.base server.store e

-- ---- what each change that is made keeps, each reply keeps

module _ (base : List ℕ) (P : Store → Type 0) (keeps : (store : Store) (e : PublishDeltaElement) → code_of base store e ≡ None → P store → P (changed store e)) where
  kept_all : (store : Store) (elements : List PublishDeltaElement) (next : Store) → after_all base (Ok store) elements ≡ Ok next → P store → P next
  kept_all store [] next made has = let same : store ≡ next = cc in subst P same has
  kept_all store (e ∷ more) next made has = by (code_of base store e) refl (λ h. kept_all (changed store e) more next h) made
    where
      by : (o : Option ReportErrorCode) → code_of base store e ≡ o → (after_all base (Ok (changed store e)) more ≡ Ok next → P (changed store e) → P next) → after_all base (refused_or e (changed store e) o) more ≡ Ok next → P next
      by None none rest made = rest made (keeps store e none has)
      by (Some c) some rest made = cc

  kept_changes : (store : Store) (r : Result Store Refused) → ((next : Store) → r ≡ Ok next → P next) → P store → P (reply_to_changes store r).next
  kept_changes store (Ok next) made has = made next refl
  kept_changes store (Err refused) made has = has

  kept_behind : (store : Store) (r : Result Received ReceiveError) → P store → P (reply_to base store r).next
  kept_behind store (Err e) has = subst P (sym (refused_leaves base store e)) has
  kept_behind store (Ok (received.Publication (messages.Query queries.List))) has = has
  kept_behind store (Ok (received.Publication (messages.Query (queries.Delta elements)))) has = kept_changes store (after_all base (Ok store) elements) (λ next made. kept_all store elements next made has) has
  kept_behind store (Ok (received.Publication (messages.Reply reply))) has = has
  kept_behind store (Ok (received.Provisioning m)) has = has

-- behind changes that were all made, objects lie under the base as before
pub lie_all : (base : List ℕ) (store next : Store) (elements : List PublishDeltaElement) → after_all base (Ok store) elements ≡ Ok next → LieUnder base store → LieUnder base next
lie_all base store next elements made lie = kept_all base (LieUnder base) (lie_made base) store elements next made lie

-- behind changes, made or not, objects lie under the base as before
lie_behind : (base : List ℕ) (store : Store) (elements : List PublishDeltaElement) → LieUnder base store → LieUnder base (reply_to_delta base store elements).next
lie_behind base store elements lie =
    kept_changes base (LieUnder base) (lie_made base) store (after_all base (Ok store) elements) (λ next made. kept_all base (LieUnder base) (lie_made base) store elements next made lie) lie

-- so do they where the reply is signed, and the changes are made, and where it isn't
pub lie_answered : {X E : Type 0} (base : List ℕ) (store next : Store) (elements : List PublishDeltaElement) (answer : Result X E)
    → OnOk answer (next ≡ (reply_to_delta base store elements).next) → OnErr answer (next ≡ store) → LieUnder base store → LieUnder base next
lie_answered base store next elements (Ok x) made kept lie = subst (LieUnder base) (sym made) (lie_behind base store elements lie)
lie_answered base store next elements (Err e) made kept lie = subst (LieUnder base) (sym kept) lie

kept_still : (scheme : Relation) (server : ServerFields) (octets : List ℕ) (when : ℤ) (reply : Reply) (P : Store → Type 0) → ((store : Store) (e : PublishDeltaElement) → code_of server.base store e ≡ None → P store → P (changed store e))
    → IsReply scheme server octets when reply → P server.store → P reply.next
kept_still scheme server octets when reply P keeps is has = subst (λ (r : Reply). P r.next) (sym is.is) (kept_behind server.base P keeps server.store is.result has)

pub lie_still : (scheme : Relation) (server : ServerFields) (octets : List ℕ) (when : ℤ) (reply : Reply) → IsReply scheme server octets when reply → LieUnder server.base server.store → LieUnder server.base reply.next
lie_still scheme server octets when reply is lie = kept_still scheme server octets when reply (LieUnder server.base) (lie_made server.base) is lie

pub ascend_still : (scheme : Relation) (server : ServerFields) (octets : List ℕ) (when : ℤ) (reply : Reply) → IsReply scheme server octets when reply → IsStore server.store → IsStore reply.next
ascend_still scheme server octets when reply is ascend = kept_still scheme server octets when reply IsStore (λ store e none h. changed_ordered store e h) is ascend

pub one_reply : (scheme : Relation) (server : ServerFields) (octets : List ℕ) (when : ℤ) (a b : Reply) → IsReply scheme server octets when a → IsReply scheme server octets when b → a ≡ b
one_reply scheme server octets when a b p q =
    p.is ∙ ap (λ (r : Result Received ReceiveError). reply_to server.base server.store r) (one_received scheme kinds.Publication octets (server.publisher ∷ []) when p.result q.result p.received q.received p.given q.given) ∙ sym q.is
