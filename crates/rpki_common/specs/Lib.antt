-- Said in contracts, and to be believed: Causes, Chaining, Items, Limits.
-- Means for loops and proofs: Collecting.
pub mod Causes
pub mod Chaining
pub mod Items
pub mod Limits
pub mod Collecting
