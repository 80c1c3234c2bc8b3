-- Said in contracts, and to be believed: Outcome.
-- Means for the loop: Onward.
pub mod Outcome
pub mod Onward
