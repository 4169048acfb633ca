-- The plain reader held against the quick one, and what holds of it too.
pub mod PlainAndQuick
pub mod FoundAtOnce
