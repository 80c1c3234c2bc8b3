-- Said in contracts, and to be believed: ObjectIdentifiers, Algorithm, Attributes, CrlExtensions,
-- Signer, RevokedCertificates, TbsCrl, Crl, Message, Beginning, Places, CrlChecks, Checks,
-- Spelling, Making, FirstRefusals, Errors. Means for readers: Ahead, Gathered, CrlGathered.
pub mod ObjectIdentifiers
pub mod Algorithm
pub mod Attributes
pub mod Gathered
pub mod Signer
pub mod Ahead
pub mod RevokedCertificates
pub mod CrlExtensions
pub mod CrlGathered
pub mod TbsCrl
pub mod Crl
pub mod CrlChecks
pub mod Message
pub mod Beginning
pub mod Checks
pub mod Places
pub mod Spelling
pub mod Making
pub mod FirstRefusals
pub mod Errors
