-- The record, and which reference state it shows.
pub mod Record
pub mod Refusal
pub mod Association
pub mod Rules
pub mod Allowed
pub mod Each
pub mod Model
