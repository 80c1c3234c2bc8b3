-- Said in contracts, and to be believed: all but Writing. IssuanceRequest, KeyElement,
-- NotPerformedResponse, PayloadType and RequestResourceLimit are what the types of these names hold
-- and print, LimitJson the JSON objects that are limits, Entitlements what is said of a class, and
-- issued or asked for in it, Answers what calls answer, and Shown what errors print. Means: Writing
-- for the writer of limits.
pub mod Answers
pub mod Entitlements
pub mod IssuanceRequest
pub mod KeyElement
pub mod LimitJson
pub mod NotPerformedResponse
pub mod PayloadType
pub mod RequestResourceLimit
pub mod Shown
pub mod Writing
