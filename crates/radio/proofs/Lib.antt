-- What is proved of frames from the radio, beside each function's own contract.
pub mod Rest
pub mod FrameLaid
pub mod Cases
pub mod WriteCases
pub mod Fresh
pub mod Settled
pub mod FrameParts
pub mod ReadBack
pub mod WriteBack
pub mod RoundTrip
pub mod WhichByte
pub mod NoLevelAbove
