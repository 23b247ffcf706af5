pub mod Accepted
pub mod Filed
pub mod Quiet
pub mod Settled
pub mod UnderWay
