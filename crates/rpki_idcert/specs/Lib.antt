-- Said in contracts, and to be believed: TbsIdCert, IdCert, Extensions, Spelling, Making, Checks,
-- Json.
-- Means for readers: Shown, Gathered.
pub mod Extensions
pub mod Gathered
pub mod Shown
pub mod TbsIdCert
pub mod IdCert
pub mod Json
pub mod Spelling
pub mod Making
pub mod Checks
