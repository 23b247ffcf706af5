-- Phases, eras and the two barriers.
pub mod Eras
