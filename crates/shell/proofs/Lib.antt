-- Laws that the functions' proofs cite, and how long a response is.
pub mod PictureText
pub mod Responses
