-- What becomes of the shares of a run, from its clients to its end.
pub mod SharesOfClients
pub mod SharesExchange
pub mod SharesCompose
pub mod SharesGathered
