-- What is asked by what was received.
use Rattle.std.proofs.Common.{◌≡◌, ℕ, ℤ, Result, Ok, Err, List, refl}
use Rattle.rpki_base.specs.PublicKey.{KeyFields}
use Rattle.rpki_base.specs.Scheme.{Relation}
use Rattle.rpki_publication.specs.declared.message.Message.TheVariants as messages
use Rattle.rpki_publication.specs.declared.query.Query.TheVariants as queries
use Rattle.rpki_publication.proofs.Writable.{message_writable}
use Rattle.rpki_ca.specs.Acceptance.{IsReceived}
use Rattle.rpki_ca.specs.declared.receiving.Kind.TheVariants as kinds
use Rattle.rpki_ca.specs.declared.receiving.Received.{Received}
use Rattle.rpki_ca.specs.declared.receiving.Received.TheVariants as received
use Rattle.rpki_ca.specs.declared.receiving.ReceiveError.{ReceiveError}
use Rattle.rpki_ca.specs.declared.receiving.ReceiveError.TheVariants as errors
use Rattle.rpki_pubserver.specs.Asking.{IsWritableAsked, asked_by, reply_to_asked}
use Rattle.rpki_pubserver.specs.Replies.{reply_to}
use Rattle.rpki_pubserver.specs.Store.{Store}

-- the reply is that to what is asked
pub reply_asked : (base : List ℕ) (store : Store) (r : Result Received ReceiveError) → reply_to base store r ≡ reply_to_asked base store (asked_by r)
reply_asked base store (Err errors.CmsDecode) = refl
reply_asked base store (Err errors.XmlError) = refl
reply_asked base store (Err errors.InvalidCsrSyntax) = refl
reply_asked base store (Err errors.CertSyntax) = refl
reply_asked base store (Err (errors.Validation failed)) = refl
reply_asked base store (Err errors.OutOfMemory) = refl
reply_asked base store (Ok (received.Publication (messages.Query queries.List))) = refl
reply_asked base store (Ok (received.Publication (messages.Query (queries.Delta elements)))) = refl
reply_asked base store (Ok (received.Publication (messages.Reply reply))) = refl
reply_asked base store (Ok (received.Provisioning m)) = refl

-- changes that are asked for were read, so they are writable
pub asked_writable : (scheme : Relation) (octets : List ℕ) (keys : List KeyFields) (when : ℤ) (r : Result Received ReceiveError) → IsReceived scheme kinds.Publication octets keys when r → IsWritableAsked (asked_by r)
asked_writable scheme octets keys when (Err errors.CmsDecode) h = tt
asked_writable scheme octets keys when (Err errors.XmlError) h = tt
asked_writable scheme octets keys when (Err errors.InvalidCsrSyntax) h = tt
asked_writable scheme octets keys when (Err errors.CertSyntax) h = tt
asked_writable scheme octets keys when (Err (errors.Validation failed)) h = tt
asked_writable scheme octets keys when (Err errors.OutOfMemory) h = tt
asked_writable scheme octets keys when (Ok (received.Publication (messages.Query queries.List))) h = tt
asked_writable scheme octets keys when (Ok (received.Publication (messages.Query (queries.Delta elements)))) h = message_writable h.signed.content (messages.Query (queries.Delta elements)) h.reads
asked_writable scheme octets keys when (Ok (received.Publication (messages.Reply reply))) h = tt
asked_writable scheme octets keys when (Ok (received.Provisioning m)) h = tt
