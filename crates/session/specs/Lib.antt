-- What start, move, going, the journal's front and its test answer; sessions worked out.
pub mod Contract
pub mod Held
pub mod Worked
pub mod Model
