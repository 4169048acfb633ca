pub mod Record
pub mod Feed
pub mod Run
pub mod Damage
pub mod Steps
pub mod Joined
pub mod Clear
