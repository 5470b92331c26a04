-- A record that keeps the rules shows exactly one reference state, and each allowed state is shown by exactly one record.
pub mod Tests
pub mod Chains
pub mod Kept
pub mod Encode
pub mod Decode
pub mod Regular
pub mod Reached
pub mod Unique
