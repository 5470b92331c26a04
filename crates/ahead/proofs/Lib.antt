-- Turns ahead and mark are those of the formula.
pub mod Walk
pub mod Mark
pub mod Formula
