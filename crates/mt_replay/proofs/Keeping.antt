pub mod Absent
pub mod First
pub mod Kinds
pub mod Machines
pub mod Moving
pub mod Snooping
pub mod States
pub mod Windows
