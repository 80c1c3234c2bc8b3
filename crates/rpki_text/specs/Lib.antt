-- Said in contracts, and to be believed: all of these. MemorySink, MemorySource, StdSink and
-- StdSource are how clauses see the types of these names.
pub mod Base64
pub mod Counts
pub mod Handle
pub mod Hash
pub mod Json
pub mod KeyIdentifier
pub mod MemorySink
pub mod MemorySource
pub mod Shown
pub mod Sink
pub mod Source
pub mod StdSink
pub mod StdSource
pub mod Uri
