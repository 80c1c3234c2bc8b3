-- What is asked by what was received. A means between receiving and replying.
use Rattle.std.specs.Prelude.{ℕ, Result, Ok, Err, List, ⊤}
use Rattle.std.specs.List.{AllByRecursion}
use Rattle.rpki_publication.specs.Change.{IsWritableChange}
use Rattle.rpki_publication.specs.declared.message.Message.TheVariants as messages
use Rattle.rpki_publication.specs.declared.query.Query.TheVariants as queries
use Rattle.rpki_publication.specs.declared.report_error_code.ReportErrorCode.TheVariants as code
use Rattle.rpki_ca.specs.declared.receiving.Received.{Received}
use Rattle.rpki_ca.specs.declared.receiving.Received.TheVariants as received
use Rattle.rpki_ca.specs.declared.receiving.ReceiveError.{ReceiveError}
use Rattle.rpki_ca.specs.declared.receiving.ReceiveError.TheVariants as errors
use Rattle.rpki_pubserver.specs.declared.asking.Asked.{Asked}
use Rattle.rpki_pubserver.specs.declared.asking.Asked.TheVariants as asked
use Rattle.rpki_pubserver.specs.Messages.{error_alone, list_message}
use Rattle.rpki_pubserver.specs.Replies.{Reply, unchanged, reply_to_delta}
use Rattle.rpki_pubserver.specs.Store.{Store}

-- what is asked; of want of memory nothing is said
abbrev pub asked_by : Result Received ReceiveError → Asked
asked_by (Err errors.CmsDecode) = asked.Nothing code.BadCmsSignature
asked_by (Err (errors.Validation failed)) = asked.Nothing code.BadCmsSignature
asked_by (Err other) = asked.Nothing code.XmlError
asked_by (Ok (received.Publication (messages.Query queries.List))) = asked.List
asked_by (Ok (received.Publication (messages.Query (queries.Delta elements)))) =
    asked.Changes elements
asked_by (Ok (received.Publication (messages.Reply reply))) = asked.Nothing code.XmlError
asked_by (Ok (received.Provisioning m)) = asked.Nothing code.XmlError

-- the reply to it
abbrev pub reply_to_asked : List ℕ → Store → Asked → Reply
reply_to_asked base store asked.List = unchanged (list_message store) store
reply_to_asked base store (asked.Changes elements) = reply_to_delta base store elements
reply_to_asked base store (asked.Nothing code) = unchanged (error_alone code) store

-- the changes were read
abbrev pub IsWritableAsked : Asked → Type 0
IsWritableAsked asked.List = ⊤
IsWritableAsked (asked.Changes elements) = AllByRecursion IsWritableChange elements
IsWritableAsked (asked.Nothing code) = ⊤
