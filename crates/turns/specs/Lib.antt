-- What a scripted start, a turn and a class answer.
pub mod Contract
pub mod Model
