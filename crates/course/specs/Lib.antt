-- What the program `course` writes for what it reads.
pub mod Answers
pub mod Program
pub mod Model
pub mod Sessions
pub mod Worked
