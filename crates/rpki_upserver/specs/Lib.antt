-- Said in contracts, and to be believed: Issuer, Table, Response, Answering, Serving, Running,
-- History, Ends, ToyIssuer, ProgramIssuer. Means: Kept, Decision.
pub mod Issuer
pub mod Table
pub mod Response
pub mod Answering
pub mod Serving
pub mod Running
pub mod History
pub mod Ends
pub mod ToyIssuer
pub mod ProgramIssuer
pub mod Kept
pub mod Decision
