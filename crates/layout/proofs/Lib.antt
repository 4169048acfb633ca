-- The table's rule, and where the samples of a slot stand.
pub mod Table
pub mod Lookup
pub mod Places
