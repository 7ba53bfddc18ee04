pub mod GeneratedPages
