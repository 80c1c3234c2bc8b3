-- Said in contracts, and to be believed: Refusal, Hexadecimal, Words, Keys, Command, Acceptance,
-- Seen, Creation, Setup, Summary, Answer, Lines, Steps, Sending, Sent, Errors.
pub mod Refusal
pub mod Hexadecimal
pub mod Words
pub mod Keys
pub mod Command
pub mod Acceptance
pub mod Seen
pub mod Creation
pub mod Setup
pub mod Summary
pub mod Answer
pub mod Lines
pub mod Steps
pub mod Sending
pub mod Sent
pub mod Errors
