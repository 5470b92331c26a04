-- Turns ahead of a thread, and whether it may be overtaken, as the code answers them.
pub mod Turns
pub mod Model
