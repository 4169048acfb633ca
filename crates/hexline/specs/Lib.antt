pub mod Digits
pub mod Lines
pub mod Reader
pub mod Text
pub mod Printed
pub mod Tally
