-- Models of the code, which only inner contracts cite.
pub mod Waiting
