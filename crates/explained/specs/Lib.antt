pub mod Window
pub mod Shown
