mod Words
mod Starts
pub mod Turns
