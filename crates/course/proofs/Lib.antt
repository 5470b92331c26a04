-- Laws that the functions' proofs cite.
pub mod Scripts
pub mod ClassLines
pub mod Lines
pub mod Responses
pub mod Sessions
pub mod Worked
