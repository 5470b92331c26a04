-- The replay that the code makes is the one that the definitions state, and what the exported functions answer.
pub mod Replayed
pub mod Tried
pub mod Answers
pub mod Touched
pub mod Pairs
pub mod Exchanged
pub mod Ahead
pub mod Class
pub mod Marks
