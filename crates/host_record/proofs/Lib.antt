-- The law of the named choices and their codes.
pub mod Codes
