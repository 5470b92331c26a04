-- Exactly the spelled lines are commands (Grammar); laws that the functions' proofs cite (the others).
pub mod Laws
pub mod Listed
pub mod Put
pub mod Digits
pub mod Fields
pub mod Lines
pub mod Asks
pub mod Held
pub mod Scan
pub mod Grammar
pub mod Transcript
