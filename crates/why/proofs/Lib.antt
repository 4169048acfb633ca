-- The reason of a place: the laws of `reason_of`, and the theorems that it is true, that no other is, and what the reasons of all places add up to;
-- the cases of a call, and that its outcome is settled.
pub mod Reasons
pub mod Following
pub mod Cases
pub mod TrueReason
pub mod OneReason
pub mod AddUp
pub mod InTheReading
pub mod RunSteps
pub mod TrueRun
pub mod AllRuns
pub mod Settled
