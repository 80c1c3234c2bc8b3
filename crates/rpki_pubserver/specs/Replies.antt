-- What is replied to what was received, and the store behind the reply (RFC 8181, 2.2 to 2.5).
use Rattle.std.specs.Prelude.{ℕ, Result, Ok, Err, List}
use Rattle.rpki_publication.specs.declared.message.Message.{Message}
use Rattle.rpki_publication.specs.declared.message.Message.TheVariants as messages
use Rattle.rpki_publication.specs.declared.publish_delta_element.PublishDeltaElement.{PublishDeltaElement}
use Rattle.rpki_publication.specs.declared.query.Query.TheVariants as queries
use Rattle.rpki_publication.specs.declared.reply.Reply.TheVariants as replies
use Rattle.rpki_publication.specs.declared.report_error_code.ReportErrorCode.TheVariants as code
use Rattle.rpki_ca.specs.declared.receiving.Received.{Received}
use Rattle.rpki_ca.specs.declared.receiving.Received.TheVariants as received
use Rattle.rpki_ca.specs.declared.receiving.ReceiveError.{ReceiveError}
use Rattle.rpki_ca.specs.declared.receiving.ReceiveError.TheVariants as errors
use Rattle.rpki_pubserver.specs.Store.{Store}
use Rattle.rpki_pubserver.specs.Changes.{Refused, after_all}
use Rattle.rpki_pubserver.specs.Messages.{error_alone, error_about, list_message}

-- a reply, and the store behind it
pub record Reply : Type 0 where
  pub message : Message
  pub next : Store

-- a reply that leaves the store as it is
abbrev pub unchanged : Message → Store → Reply
unchanged message store = record { message = message; next = store }

-- to what becomes of changes: success, and the store behind them, where all are made; or the error
-- of the first that isn't
abbrev pub reply_to_changes : Store → Result Store Refused → Reply
reply_to_changes store (Ok next) = record { message = messages.Reply replies.Success; next = next }
reply_to_changes store (Err refused) = unchanged (error_about refused) store

-- to changes, of which each is made behind those before it
abbrev pub reply_to_delta : List ℕ → Store → List PublishDeltaElement → Reply
reply_to_delta base store elements =
    reply_to_changes store (after_all base (Ok store) elements)

-- To what was received: where there is no signed message, or a check of it fails, and where it
-- holds no message of the protocol or a reply, an error alone; to the query for the list that list;
-- and to changes what becomes of them. That a certificate or a request can't be read is never told
-- of this protocol, nor is a message of the other.
abbrev pub reply_to : List ℕ → Store → Result Received ReceiveError → Reply
reply_to base store (Err errors.CmsDecode) = unchanged (error_alone code.BadCmsSignature) store
reply_to base store (Err (errors.Validation failed)) =
    unchanged (error_alone code.BadCmsSignature) store
reply_to base store (Err other) = unchanged (error_alone code.XmlError) store
reply_to base store (Ok (received.Publication (messages.Query queries.List))) =
    unchanged (list_message store) store
reply_to base store (Ok (received.Publication (messages.Query (queries.Delta elements)))) =
    reply_to_delta base store elements
reply_to base store (Ok (received.Publication (messages.Reply reply))) =
    unchanged (error_alone code.XmlError) store
reply_to base store (Ok (received.Provisioning m)) = unchanged (error_alone code.XmlError) store
