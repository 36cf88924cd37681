pub mod Filled
pub mod Granting
pub mod Sought
