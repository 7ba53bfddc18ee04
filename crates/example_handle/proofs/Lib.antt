pub mod ActorsAtRest
