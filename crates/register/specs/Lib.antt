pub mod Catalogue
pub mod Rows
