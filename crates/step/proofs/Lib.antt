-- What the proofs of the functions share, and the theory that ties the code to the reference machine.
pub mod Keeps
pub mod Ring
pub mod InPlace
pub mod Split
