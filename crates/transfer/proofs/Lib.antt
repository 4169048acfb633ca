-- What is proved of a transfer.
pub mod Cases
pub mod WithRow
pub mod Room
pub mod OneMore
pub mod InOrder
pub mod Single
pub mod SingleReads
pub mod Untouched
pub mod GoodFrames
pub mod WhichByte
pub mod Settled
pub mod NoLevelAbove
