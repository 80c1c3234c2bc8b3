-- Said in contracts, and to be believed: all but Filling and Gathering. Message, Class, Request,
-- NotPerformed and Limit are the tables: the root and what stands in it, classes with certificates,
-- requests and keys, what was not performed, sets of numbers. Shape is what a message and its shape
-- hold, and how one becomes the other; Answers what calls answer; Writable what is read again where
-- it is written. Cms is signed messages.
-- Means: Filling for the readers of certificates and requests, Gathering for loops.
pub mod Answers
pub mod Class
pub mod Cms
pub mod Filling
pub mod Gathering
pub mod Limit
pub mod Message
pub mod NotPerformed
pub mod Request
pub mod Shape
pub mod Writable
