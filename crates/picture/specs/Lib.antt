-- Pictures of a record, and turns ahead.
pub mod Picture
pub mod Turns
pub mod Model
