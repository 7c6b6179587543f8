mod Agreeing
mod AllMarked
mod AskedBits
mod ByParts
pub mod Chains
mod ChangedNames
mod Followed
pub mod Kept
pub mod LeftBlocks
mod LeftDefined
mod LeftNames
mod LeftSizes
mod LeftTyped
mod Lockstep
mod Mapped
mod Marking
mod Narrowing
mod NeededLines
mod Noted
mod NothingBeyond
mod OneNarrowed
mod Operations
pub mod Places
mod Related
mod ResultTypes
mod ResultsBelow
mod RewrittenNames
mod SameBits
mod StandsFor
mod Steps
mod StillDefined
mod ValueWidths
mod Values
