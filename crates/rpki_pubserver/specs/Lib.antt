-- Said in contracts, and to be believed: Store, Changes, Messages, Replies, Deciding, Server,
-- Serving, Running, Ends. Means: Places, Refusals, Asking.
pub mod Store
pub mod Changes
pub mod Messages
pub mod Replies
pub mod Deciding
pub mod Server
pub mod Serving
pub mod Running
pub mod Ends
pub mod Places
pub mod Refusals
pub mod Asking
