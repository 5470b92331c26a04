-- Models of the code, which only inner contracts cite: nobody needs to believe them.
pub mod Answers
pub mod Replayed
pub mod Made
