-- A session as bytes that the caller keeps: its bytes, the calls on them, and what holds of them.
pub mod Stored
pub mod Calls
pub mod Laws
pub mod Model
