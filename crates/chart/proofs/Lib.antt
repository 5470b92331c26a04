-- Laws of the chart.
pub mod Rows
pub mod Loops
pub mod Length
pub mod Steps
pub mod Complete
