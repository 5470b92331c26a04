-- The moves of a session as a chart that a person reads.
pub mod Chart
pub mod Complete
pub mod Model
