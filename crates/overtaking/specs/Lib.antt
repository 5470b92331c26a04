-- Turns ahead as definitions: the formula, the mark 'may be overtaken', and what is claimed of those that are not marked.
pub mod Ahead
pub mod InTurn
pub mod Worked
