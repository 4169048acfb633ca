-- Laws of texts put one after another, and of numbers as text.
pub mod Puts
pub mod Numbers
pub mod Places
pub mod ReadBack
pub mod Settled
pub mod Example
