-- The front of a buffer, read and written; what the calls leave there; and the laws.
pub mod Reading
pub mod Writing
pub mod RoundTrip
pub mod Sessions
pub mod Valid
pub mod Answered
pub mod Cases
pub mod Laws
