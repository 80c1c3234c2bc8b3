-- Said in contracts, and to be believed: all but Details and Writing. Message, Change, ListReply,
-- ReportError, ReportErrorCode and Pdu are the tables, Publish and ListElement fields, Answers what
-- calls answer, Shown and ErrorReply what is printed, Cms signed messages.
-- Means: Details for a loop, Writing for the writer.
pub mod Answers
pub mod Change
pub mod Cms
pub mod Details
pub mod ErrorReply
pub mod ListElement
pub mod ListReply
pub mod Message
pub mod Pdu
pub mod Publish
pub mod ReportError
pub mod ReportErrorCode
pub mod Shown
pub mod Writing
