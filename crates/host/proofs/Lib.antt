-- The laws of host frames read and built, by subject, and the theorems that are signed.
pub mod ReadCases
pub mod Told
pub mod Fresh
pub mod Settled
pub mod BuildCases
pub mod BuiltFrame
pub mod WhollySent
pub mod RoundTrip
pub mod WhichByte
pub mod Swapped
