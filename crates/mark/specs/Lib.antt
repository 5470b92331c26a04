-- The mark of a handed-in picture, and what holds of marks.
pub mod Mark
pub mod Laws
pub mod Worked
pub mod Model
