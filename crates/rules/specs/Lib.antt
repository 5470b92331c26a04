-- The walk of the chain check and its one number; models. The rules themselves are in state/specs/Rules.antt.
pub mod Walk
pub mod Model
