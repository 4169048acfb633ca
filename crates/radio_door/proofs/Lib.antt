-- What is proved of the status record as cells, and of the radio's calls on them.
pub mod LayoutCases
pub mod RadioCases
pub mod StatusCases
pub mod Faithful
pub mod NoLevelAbove
