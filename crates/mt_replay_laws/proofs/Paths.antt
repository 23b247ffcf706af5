-- What leads from one machine to another without a call: events, and processors that go.
pub mod Going
pub mod Settling
