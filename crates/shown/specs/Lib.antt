-- What is claimed of records and the states that they show.
pub mod Unique
