-- Said in contracts, and to be believed:
-- what values are: Identifier, Tags, Lengths, Value, Tree, Arcs; of Header and Part what stands
-- first (`IdentifierFirst`, `NoValue`);
-- grammars: Grammar, OctetString, Oid, Null, Integer, Number, Boolean, Bits, Entry, Held, InDer,
-- Leaf, Whole;
-- what calls take and count: Level, Position, Takes, Item, Ticks, Stopping;
-- what is written: Writing.
-- Reader says `value_at` and `decoded`: the first is known by its law `value_at_is`, and its steps
-- are means.
-- Means for loops, proofs and stored values: HeaderAt, BehindHeader, Padding, Walk, CountedWalk,
-- ExactWalk, Segments, OptionalBoolean, ValueCode, Entries, Growth, Flat, Levels.
pub mod Identifier
pub mod Padding
pub mod Tags
pub mod Lengths
pub mod HeaderAt
pub mod Header
pub mod Value
pub mod Level
pub mod Part
pub mod Walk
pub mod Position
pub mod Grammar
pub mod Takes
pub mod OctetString
pub mod Oid
pub mod Null
pub mod Integer
pub mod Entry
pub mod Segments
pub mod Reader
pub mod Ticks
pub mod Stopping
pub mod CountedWalk
pub mod ExactWalk
pub mod Item
pub mod BehindHeader
pub mod ValueCode
pub mod Tree
pub mod Entries
pub mod Growth
pub mod Writing
pub mod Boolean
pub mod OptionalBoolean
pub mod Number
pub mod Bits
pub mod Whole
pub mod Held
pub mod InDer
pub mod Arcs
pub mod Leaf
pub mod Flat
pub mod Levels
