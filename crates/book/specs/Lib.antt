pub mod Cells
pub mod Effects
pub mod Keys
pub mod Packing
pub mod Places
pub mod Standing
