-- Models of the code, which only inner contracts cite: nobody needs to believe them.
pub mod Row
pub mod Made
