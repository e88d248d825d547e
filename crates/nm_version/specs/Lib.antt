-- What the contracts of public calls say: what is kept, and commands with their refusals, ..
pub mod Limits
pub mod Command
pub mod Kept
pub mod Replay
pub mod Changed
pub mod Refusal
pub mod After
-- .. answers, ..
pub mod Assembly
pub mod Projects
pub mod Listing
pub mod Objects
pub mod Timeline
-- .. and laws
pub mod Laws
pub mod Withdrawal
pub mod Lesser
pub mod Edits
pub mod Timelines
-- What the proofs of the code say
pub mod ByTimelines
pub mod Log
pub mod Within
