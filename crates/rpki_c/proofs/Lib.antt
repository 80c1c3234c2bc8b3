-- What the proofs of the exports share.
pub mod Handing
pub mod Unread
pub mod Octets
pub mod ManyKeys
pub mod KnownRecords
pub mod Refusing
