-- Said in contracts, and to be believed:
-- documents and elements: Name, AttributeSpelling, PieceSpelling, Content, Element, Lettered,
-- Texts, Trimmed; the same octets in a reader's steps, as laws say: Lexing, Runs; what is asked of
-- an element, and answered: Tables, Answers, Errors; what is written: Spelling, Draft,
-- PlainElement. Means for loops, proofs and the element in memory: PlainCharacter, Kept, Pieces,
-- Stack, Nodes, DocumentNodes, Views.
pub mod Answers
pub mod AttributeSpelling
pub mod Content
pub mod DocumentNodes
pub mod Draft
pub mod Element
pub mod Errors
pub mod Kept
pub mod Lettered
pub mod Lexing
pub mod Name
pub mod Nodes
pub mod PieceSpelling
pub mod Pieces
pub mod PlainCharacter
pub mod PlainElement
pub mod Runs
pub mod Spelling
pub mod Stack
pub mod Tables
pub mod Texts
pub mod Trimmed
pub mod Views
