-- The points of the records, what the code arrives at, and the laws of marks.
pub mod Rows
pub mod Cases
pub mod Behind
pub mod Laws
pub mod Worked
