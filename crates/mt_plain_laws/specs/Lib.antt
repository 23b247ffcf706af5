pub mod Rendezvous
pub mod WorkedRendezvous
