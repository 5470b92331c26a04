-- The move that a record of numbers stands for; setting a thread's script.
pub mod Association
pub mod Contract
