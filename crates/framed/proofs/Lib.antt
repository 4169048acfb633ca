-- Laws of the digits and of the lines, and the theorems about whole inputs and about what a listing finds in their text.
pub mod Digits
pub mod Laying
pub mod Joined
pub mod WholeInput
pub mod AllBytes
pub mod ReadBack
pub mod ToAListing
pub mod Settled
