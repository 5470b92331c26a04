-- What the lines of the stepper are answered.
pub mod Answers
