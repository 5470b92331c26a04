-- Laws of pictures.
pub mod Over
pub mod Rows
pub mod Tables
pub mod Parts
pub mod Records
pub mod ReadBack
pub mod WriteBack
pub mod Written
pub mod Numbers
pub mod Formula
pub mod Reading
pub mod RoundTrip
