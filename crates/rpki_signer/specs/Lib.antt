-- Said in contracts, and to be believed: Signer, Errors, Limits, Serials, Toy, ToySigner, Any,
-- LongSigner.
pub mod Any
pub mod Errors
pub mod Limits
pub mod LongSigner
pub mod Serials
pub mod Signer
pub mod Toy
pub mod ToySigner
