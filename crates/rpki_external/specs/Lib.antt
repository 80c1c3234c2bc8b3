-- Said in contracts, and to be believed: Question, Spelling, Records, Answers, Receiving, Verifying,
-- Making, Inspection, KeysRefusal, Words, Running, Lengths.
pub mod Question
pub mod Spelling
pub mod Records
pub mod Answers
pub mod Receiving
pub mod Verifying
pub mod Making
pub mod Inspection
pub mod KeysRefusal
pub mod Words
pub mod Running
pub mod Lengths
