pub mod Edge
pub mod Answers
