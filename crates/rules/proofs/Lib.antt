-- Laws behind the rules' code.
pub mod Table
pub mod Logic
pub mod Members
pub mod Bits
pub mod Walks
pub mod Chains
pub mod Placed
pub mod Agree
pub mod Firsts
pub mod Wrong
