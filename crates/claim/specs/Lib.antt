-- What is claimed of the entry points together: demands 2 and 3, what accepted calls leave whoever wrote record and journal, and that a class is the moves that
-- it makes.
pub mod Implementation
pub mod Demand2
pub mod Demand3
pub mod Sound
pub mod Class
pub mod Exchange
pub mod Worked
