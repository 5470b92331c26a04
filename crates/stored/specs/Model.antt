-- What only inner contracts cite: nobody needs to believe it.
pub mod Writable
