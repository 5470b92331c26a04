-- Lines in, responses out, as bytes.
pub mod Command
pub mod Grammar
pub mod Printing
pub mod Request
pub mod Transcript
pub mod Model
