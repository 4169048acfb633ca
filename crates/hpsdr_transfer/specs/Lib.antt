pub mod Transfer
pub mod InTurn
