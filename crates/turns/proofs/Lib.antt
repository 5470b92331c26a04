-- What the entry points' code finds.
pub mod Turned
pub mod Answers
pub mod Loop
