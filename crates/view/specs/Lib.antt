-- A state as a table that a person reads.
pub mod Words
pub mod Each
pub mod Table
