pub mod Tokens
pub mod Lexing
