-- What is proved of the host's calls on cells.
pub mod HostCases
