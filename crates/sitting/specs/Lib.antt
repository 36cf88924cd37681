pub mod Counts
pub mod States
pub mod Today
