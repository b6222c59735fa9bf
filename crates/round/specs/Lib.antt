pub mod Clauses
pub mod Over
pub mod Once
