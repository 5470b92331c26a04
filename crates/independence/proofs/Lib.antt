-- Neighbours that share no written word may change places.
pub mod Slots
pub mod Views
pub mod Depends
pub mod Causes
pub mod Words
pub mod Order
pub mod Exchange
pub mod Lists
pub mod Worked
