-- What is proved of a transfer on cells.
pub mod TransferCases
pub mod Leaves
pub mod Settled
pub mod Tells
pub mod NoLevelAbove
