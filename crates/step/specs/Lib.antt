-- Models only: the moves themselves are in reference/specs.
pub mod Model
