pub mod Entering
pub mod Listed
pub mod Listing
pub mod Meetings
pub mod Moved
pub mod Nodes
pub mod Pairs
pub mod Counting
