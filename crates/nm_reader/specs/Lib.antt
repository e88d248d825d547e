-- What the contracts of public calls say: the model that whole documents state, ..
pub mod Limits
pub mod Namespaces
pub mod Place
pub mod Meaning
pub mod Tag
pub mod Texts
pub mod Model
pub mod Blocks
pub mod Document
-- .. the fault of a document, piece by piece, ..
pub mod Cutting
pub mod Opened
pub mod Context
pub mod Rules
pub mod Fault
pub mod Code
-- .. and both of inputs, byte by byte
pub mod Input
pub mod Read
pub mod Laws
-- What the proofs of the code say
pub mod Lent
pub mod Leading
pub mod Seen
pub mod Taken
pub mod Shape
pub mod Draft
