pub mod Pushing
pub mod Cutting
pub mod Planning
pub mod Asking
pub mod Turning
pub mod Leaving
