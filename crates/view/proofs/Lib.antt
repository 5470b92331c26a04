-- Laws of the texts that the functions' proofs cite.
pub mod Names
pub mod Rows
pub mod Sizes
