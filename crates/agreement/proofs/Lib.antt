-- The model of the code's move on the record of a state is the reference machine's move.
pub mod Index
pub mod View
pub mod Lines
pub mod Fields
pub mod Causes
pub mod Moved
