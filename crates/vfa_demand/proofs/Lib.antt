mod Asking
mod Ends
pub mod Members
mod Joining
mod Monotone
mod Nothing
mod Parts
mod PutDefinitions
mod PutNames
mod Searched
mod Searching
mod Shifts
pub mod UsableNames
mod UsableParts
pub mod UsedNames
mod Users
mod Within
