pub mod ActorPair
