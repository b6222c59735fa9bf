-- What the contracts of `vectors` cite.
pub mod Line
