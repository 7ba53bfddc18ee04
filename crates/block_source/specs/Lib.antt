pub mod BlocksLeft
