-- The reply to what was received, signed or not.
use Rattle.std.proofs.Common.{◌≡◌, ◌≢◌, ℕ, ℤ, Result, Ok, Err, IfOk, IfErr, OnOk, List, [], ◌∷◌, sym, ap, subst, ◌∙◌}
use Rattle.rpki_base.specs.PublicKey.{KeyFields}
use Rattle.rpki_base.specs.Scheme.{Relation}
use Rattle.rpki_publication.specs.Cms.{CmsFields}
use Rattle.rpki_publication.specs.declared.message.Message.{Message}
use Rattle.rpki_sigmsg.specs.declared.create_error.CreateError.{CreateError}
use Rattle.rpki_sigmsg.specs.declared.create_error.CreateError.TheVariants as create
use Rattle.rpki_ca.specs.declared.receiving.Kind.TheVariants as kinds
use Rattle.rpki_ca.specs.declared.receiving.Received.{Received}
use Rattle.rpki_ca.specs.declared.receiving.Received.TheVariants as received
use Rattle.rpki_ca.specs.declared.receiving.ReceiveError.{ReceiveError}
use Rattle.rpki_ca.specs.declared.receiving.ReceiveError.TheVariants as errors
use Rattle.rpki_ca.specs.Acceptance.{IsReceived}
use Rattle.rpki_ca.specs.Seen.{SignerSeen}
use Rattle.rpki_ca.specs.Sending.{FailsToSign}
use Rattle.rpki_pubserver.specs.declared.asking.Asked.{Asked}
use Rattle.rpki_pubserver.specs.Asking.{IsWritableAsked, asked_by, reply_to_asked}
use Rattle.rpki_pubserver.specs.Replies.{Reply}
use Rattle.rpki_pubserver.specs.Server.{FailsReply, IsQueryAnswered, IsReply, IsSignedReply, ServerFields, with_store}
use Rattle.rpki_pubserver.specs.Store.{Store}
use Rattle.rpki_pubserver.proofs.Asked.{asked_writable, reply_asked}

-- ---- what is asked

pub reply_so : (scheme : Relation) (server view : ServerFields) (octets : List ℕ) (when : ℤ) (r : Result Received ReceiveError) (a : Asked) → view ≡ server → IsReceived scheme kinds.Publication octets (view.publisher ∷ []) when r → r ≢ Err errors.OutOfMemory → a ≡ asked_by r
    → IsReply scheme server octets when (reply_to_asked server.base server.store a)
reply_so scheme server view octets when r a same received given is = record {
  result = r;
  given = given;
  received = subst (λ (s : ServerFields). IsReceived scheme kinds.Publication octets (s.publisher ∷ []) when r) same received;
  is = ap (λ (x : Asked). reply_to_asked server.base server.store x) is ∙ sym (reply_asked server.base server.store r);
}

pub writable_so : (scheme : Relation) (octets : List ℕ) (publisher : KeyFields) (when : ℤ) (r : Result Received ReceiveError) (a b : Asked) → IsReceived scheme kinds.Publication octets (publisher ∷ []) when r → a ≡ asked_by r → a ≡ b → IsWritableAsked b
writable_so scheme octets publisher when r a b received is same = subst IsWritableAsked (sym is ∙ same) (asked_writable scheme octets (publisher ∷ []) when r received)

-- ---- what is answered

module _ {I E : Type 0} (scheme : Relation) (server : ServerFields) (octets : List ℕ) (when : ℤ) (signer : SignerSeen I) (reply : Reply) where
  pub answered_so : (r : Result CmsFields (CreateError E)) (message : Message) (next : ServerFields) → IsReply scheme server octets when reply → message ≡ reply.message → IfOk r (IsSignedReply scheme when signer message) → OnOk r (next ≡ with_store server reply.next)
      → IfOk r (λ c. IsQueryAnswered scheme server octets when signer c next)
  answered_so (Ok c) message next is same signed behind = record {
    reply = reply;
    is = is;
    signed = subst (λ (m : Message). IsSignedReply scheme when signer m c) same signed;
    behind = behind;
  }
  answered_so (Err e) message next is same signed behind = tt

  pub refused_so : (r : Result CmsFields (CreateError E)) (message : Message) → IsReply scheme server octets when reply → message ≡ reply.message → IfErr r (λ e. e ≢ create.OutOfMemory → FailsToSign scheme when signer (received.Publication message) e)
      → IfErr r (λ e. e ≢ create.OutOfMemory → FailsReply scheme server octets when signer e)
  refused_so (Ok c) message is same fails = tt
  refused_so (Err e) message is same fails = λ other. record {
    reply = reply;
    is = is;
    fails = subst (λ (m : Message). FailsToSign scheme when signer (received.Publication m) e) same (fails other);
  }

  -- what is answered where the objects stay
  pub answered_only : (r : Result CmsFields (CreateError E)) (message : Message) → IsReply scheme server octets when reply → message ≡ reply.message → IfOk r (IsSignedReply scheme when signer message) → reply.next ≡ server.store → IfOk r (λ c. IsQueryAnswered scheme server octets when signer c server)
  answered_only r message is same signed stays = answered_so r message server is same signed (always r)
    where
      always : (r : Result CmsFields (CreateError E)) → OnOk r (server ≡ with_store server reply.next)
      always (Ok c) = ap (λ (s : Store). with_store server s) (sym stays)
      always (Err e) = tt
