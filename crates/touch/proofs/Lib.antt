-- The words that the code says are those of the reference machine.
pub mod Agrees
