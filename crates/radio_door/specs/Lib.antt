pub mod Status
pub mod Radio
pub mod Layout
