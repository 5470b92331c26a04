-- What a move answers to a caller that keeps the record.
pub mod Made
