-- Laws of the record.
pub mod Branch
pub mod Begun
pub mod Numbers
pub mod Past
pub mod Refused
pub mod Joining
pub mod Fill
pub mod Sized
pub mod Table
pub mod Started
pub mod Tables
