mod Orders
mod Leaves
mod Words
mod Levels
mod Walks
