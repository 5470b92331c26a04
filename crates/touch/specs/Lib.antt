-- The words that a move touches, as the code has them.
pub mod Association
pub mod Model
