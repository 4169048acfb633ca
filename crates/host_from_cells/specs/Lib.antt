pub mod FromCells
