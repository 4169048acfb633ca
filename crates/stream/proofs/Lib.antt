-- The laws of a scan, of the record and of a run of calls; then the theorems that a report rests on.
pub mod Scanning
pub mod Cells
pub mod Joined
pub mod Records
pub mod Advance
pub mod Calls
pub mod Runs
pub mod Sound
pub mod Cut
pub mod Resync
pub mod Place
pub mod Settled
pub mod FoundAgain
pub mod FoundHoweverCut
pub mod NoFewer
