-- A publication server for one publisher (RFC 8181, 1 and 2).
use Rattle.std.specs.Prelude.{◌≡◌, ◌≢◌, ◌<◌, ℕ, ℤ, Result, Err, List, [], ◌∷◌, length}
use Rattle.rpki_common.specs.Limits.{most_content}
use Rattle.rpki_base.specs.PublicKey.{KeyFields}
use Rattle.rpki_base.specs.Scheme.{Relation}
use Rattle.rpki_publication.specs.Cms.{CmsFields}
use Rattle.rpki_publication.specs.Message.{text_of}
use Rattle.rpki_publication.specs.declared.message.Message.{Message}
use Rattle.rpki_sigmsg.specs.declared.create_error.CreateError.{CreateError}
use Rattle.rpki_ca.specs.declared.receiving.Kind.TheVariants as kinds
use Rattle.rpki_ca.specs.declared.receiving.Received.{Received}
use Rattle.rpki_ca.specs.declared.receiving.Received.TheVariants as received
use Rattle.rpki_ca.specs.declared.receiving.ReceiveError.{ReceiveError}
use Rattle.rpki_ca.specs.declared.receiving.ReceiveError.TheVariants as errors
use Rattle.rpki_ca.specs.Acceptance.{IsReceived}
use Rattle.rpki_ca.specs.Seen.{SignerSeen}
use Rattle.rpki_ca.specs.Sending.{IsSentAs, FailsToSign}
use Rattle.rpki_pubserver.specs.Store.{Store}
use Rattle.rpki_pubserver.specs.Replies.{Reply, reply_to}

-- the text of the base, under which objects may lie; the key under which queries are believed; and
-- the objects
pub record ServerFields : Type 0 where
  pub base : List ℕ
  pub publisher : KeyFields
  pub store : Store

-- the server with these objects in the place of its own
abbrev pub with_store : ServerFields → Store → ServerFields
with_store server store = record {
  base = server.base;
  publisher = server.publisher;
  store = store;
}

-- the reply to these octets at this moment: `reply_to` of what is received from them under the
-- publisher's key
pub record IsReply (scheme : Relation) (server : ServerFields) (octets : List ℕ) (when : ℤ)
    (reply : Reply) : Type 0 where
  pub result : Result Received ReceiveError
  pub given : result ≢ Err errors.OutOfMemory
  pub received : IsReceived scheme kinds.Publication octets (server.publisher ∷ []) when result
  pub is : reply ≡ reply_to server.base server.store result

-- ---- the reply is signed, or it isn't

-- the signed message holds the message, and was created with it at the moment
pub record IsSignedReply {Id : Type 0} (scheme : Relation) (when : ℤ) (signer : SignerSeen Id)
    (message : Message) (c : CmsFields) : Type 0 where
  pub message_is : c.message ≡ message
  pub signed : IsSentAs scheme when signer (received.Publication message) c.signed

-- the signed message holds the reply to octets, and the server has the objects behind it
pub record IsQueryAnswered {Id : Type 0} (scheme : Relation) (server : ServerFields)
    (octets : List ℕ) (when : ℤ) (signer : SignerSeen Id) (c : CmsFields) (next : ServerFields)
    : Type 0 where
  pub reply : Reply
  pub is : IsReply scheme server octets when reply
  pub signed : IsSignedReply scheme when signer reply.message c
  pub behind : next ≡ with_store server reply.next

-- the reply to octets isn't signed for this cause
pub record FailsReply {Id E : Type 0} (scheme : Relation) (server : ServerFields) (octets : List ℕ)
    (when : ℤ) (signer : SignerSeen Id) (error : CreateError E) : Type 0 where
  pub reply : Reply
  pub is : IsReply scheme server octets when reply
  pub fails : FailsToSign scheme when signer (received.Publication reply.message) error

-- a reply to the octets has a text of more than 2^31 octets
pub record HasLongReply (scheme : Relation) (server : ServerFields) (octets : List ℕ) (when : ℤ)
    : Type 0 where
  pub reply : Reply
  pub is : IsReply scheme server octets when reply
  pub long : most_content < length (text_of reply.message)
