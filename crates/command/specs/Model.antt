-- Models of the code: nobody needs to believe them. Grammar says all of `command_of`, CourseGrammar all of `ask_of`.
pub mod Hex
pub mod Input
pub mod Line
pub mod Reading
pub mod Request
