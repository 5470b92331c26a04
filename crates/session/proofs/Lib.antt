-- What the entry points' code finds, and what a record and a journal of a session keep.
pub mod Standing
pub mod Answers
pub mod Reached
pub mod Replayed
pub mod Counted
pub mod Found
pub mod Went
pub mod Testing
pub mod Equal
pub mod Shown
pub mod Holding
pub mod LastTouch
pub mod Numbers
pub mod Along
pub mod Worked
