-- Said in contracts, and to be believed: ObjectIdentifiers, KeyUsage, ExtendedKeyUsage, Access,
-- Extensions, CsrAttributes, Csr, Cert, Making, ReadInDer. Means for readers: Gathered.
pub mod ObjectIdentifiers
pub mod KeyUsage
pub mod ExtendedKeyUsage
pub mod Access
pub mod Extensions
pub mod Gathered
pub mod CsrAttributes
pub mod Csr
pub mod Cert
pub mod Making
pub mod ReadInDer
