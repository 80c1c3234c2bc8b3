-- Said in contracts, and to be believed: LongKeys.
pub mod LongKeys
