-- What is claimed of a whole list of calls on a session's bytes.
pub mod Sessions
