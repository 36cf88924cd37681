pub mod Answers
pub mod Exactly
pub mod Lines
pub mod Reading
pub mod Spelling
pub mod Words
