-- The record of a state, and what a transfer does to it.
pub mod Tables
pub mod Queues
pub mod Spots
pub mod Shown
pub mod Changes
pub mod Transfers
