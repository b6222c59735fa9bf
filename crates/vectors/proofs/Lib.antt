-- The laws of this crate.
mod Reading
