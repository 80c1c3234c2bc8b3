-- Said in contracts, and to be believed: Verdict, Explanation, Checking, Ties, Lines. Means:
-- Entries.
pub mod Verdict
pub mod Explanation
pub mod Entries
pub mod Lines
pub mod Checking
pub mod Ties
