-- Calls on a session's bytes go as the session on records does.
pub mod Sessions
