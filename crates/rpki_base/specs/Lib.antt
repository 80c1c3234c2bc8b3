-- Said in contracts, and to be believed: ObjectIdentifiers, Digits, Civil, Time, TimeText, Rfc3339,
-- Validity, Serial, KeyIdentifier, Name, Extension, Bits, Algorithm, AlgorithmIdentifier,
-- RpkiSignatureAlgorithm, BgpsecSignatureAlgorithm, PublicKey, Signature, SignedData, Scheme,
-- Checks. Means for readers without memory, and proofs of laws: Leaves, WritingLaws, AlgorithmLaws.
pub mod Name
pub mod Digits
pub mod Civil
pub mod Time
pub mod TimeText
pub mod Rfc3339
pub mod Validity
pub mod Serial
pub mod KeyIdentifier
pub mod ObjectIdentifiers
pub mod Algorithm
pub mod Bits
pub mod PublicKey
pub mod Signature
pub mod SignedData
pub mod AlgorithmIdentifier
pub mod Leaves
pub mod RpkiSignatureAlgorithm
pub mod BgpsecSignatureAlgorithm
pub mod WritingLaws
pub mod AlgorithmLaws
pub mod Extension
pub mod Scheme
pub mod Checks
