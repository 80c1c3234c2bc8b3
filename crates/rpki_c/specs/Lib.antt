-- Said in contracts, and to be believed: HandingOver, Arguments, Records, Calls, Deciding.
pub mod HandingOver
pub mod Arguments
pub mod Records
pub mod Calls
pub mod Deciding
