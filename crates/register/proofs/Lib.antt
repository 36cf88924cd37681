pub mod Levels
pub mod Lists
pub mod Persons
pub mod Sound
pub mod Whole
