-- Models of the code, which only inner contracts cite: nobody needs to believe them.
pub mod Bytes
pub mod Chain
pub mod Holder
