-- The laws that readers and writers of frames cite, by subject.
pub mod Cases
pub mod First
pub mod Signed
pub mod Machine
pub mod Bytes
pub mod Pack
pub mod SyncCases
pub mod Header
pub mod Everywhere
pub mod FirstWrong
pub mod Named
pub mod Causes
pub mod Lists
pub mod Fill
pub mod Laid
pub mod Copies
pub mod Settled
