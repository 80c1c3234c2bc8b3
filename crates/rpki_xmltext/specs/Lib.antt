-- Said in contracts, and to be believed: all of these. Reading says what octets are read as by a
-- table, Answers what calls answer, UriText which texts are URIs, Parts how elements without
-- children are written, and Inside what stands behind their attributes.
pub mod Answers
pub mod Inside
pub mod Parts
pub mod Reading
pub mod UriText
