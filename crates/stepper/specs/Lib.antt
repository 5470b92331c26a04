-- What the program writes for what it reads.
pub mod Program
