-- What the functions that C programs call answer.
pub mod Replay
pub mod Words
pub mod Independent
pub mod Turns
pub mod Class
pub mod Model
