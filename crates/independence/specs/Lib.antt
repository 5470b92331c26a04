-- Document 02, No. 5, as definitions: what a move depends on, and neighbours that may change places.
pub mod Depends
pub mod Exchange
pub mod Worked
