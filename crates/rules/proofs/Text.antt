-- The laws of text: classes of bytes, the tokens that analyzers make, the tokens that lexing gives.
pub mod Classes
pub mod Values
pub mod Pieces
pub mod Words
pub mod Tokens
pub mod Tokenizing
