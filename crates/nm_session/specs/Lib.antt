-- What the contracts of public calls say: lines, replies, and what comes of one command ..
pub mod Limits
pub mod Digits
pub mod PlainWord
pub mod Word
pub mod Reply
pub mod Body
pub mod Turn
-- .. of a whole stream, and of a store that is opened from one ..
pub mod Ending
pub mod Stream
pub mod Answered
pub mod Opening
pub mod Laws
-- .. and what an input gives of a stream
pub mod Halts
pub mod Buffered
pub mod Received
pub mod Input
-- Examples, computed
pub mod Examples
-- What the proofs of the code say of what stands below these calls
pub mod Ahead
pub mod Turns
