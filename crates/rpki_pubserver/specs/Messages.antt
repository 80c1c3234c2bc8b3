-- The messages that a server replies (RFC 8181, 2.2 to 2.4).
use Rattle.std.specs.Prelude.{None, Some, [], ◌∷◌}
use Rattle.rpki_publication.specs.declared.message.Message.{Message}
use Rattle.rpki_publication.specs.declared.message.Message.TheVariants as messages
use Rattle.rpki_publication.specs.declared.query_pdu.QueryPdu.TheVariants as pdu
use Rattle.rpki_publication.specs.declared.reply.Reply.TheVariants as replies
use Rattle.rpki_publication.specs.declared.report_error_code.ReportErrorCode.{ReportErrorCode}
use Rattle.rpki_publication.specs.ReportError.{ReportErrorFields}
use Rattle.rpki_publication.specs.ReportErrorCode.{default_text}
use Rattle.rpki_pubserver.specs.Store.{Store, listed_store}
use Rattle.rpki_pubserver.specs.Changes.{Refused, tag_of_change}

-- a reply with one error
abbrev pub error_message : ReportErrorFields → Message
error_message error = messages.Reply (replies.ErrorReply (error ∷ []))

-- the error reply that is of no change: its code, and the code's text
abbrev pub error_alone : ReportErrorCode → Message
error_alone code = error_message (record {
  error_code = code;
  tag = None;
  error_text = Some (default_text code);
  failed_pdu = None;
})

-- the error reply that is of a change: its code, the change's tag, the code's text, and the change
abbrev pub error_about : Refused → Message
error_about refused = error_message (record {
  error_code = refused.code;
  tag = tag_of_change refused.element;
  error_text = Some (default_text refused.code);
  failed_pdu = Some (pdu.PublishDeltaElement refused.element);
})

-- the list reply: URI and hash of each object in the store (2.3)
abbrev pub list_message : Store → Message
list_message store = messages.Reply (replies.List (listed_store store))
