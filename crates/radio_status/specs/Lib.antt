pub mod Record
pub mod Levels
pub mod Words
pub mod Carried
pub mod Control
pub mod RoundTrip
