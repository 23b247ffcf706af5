pub mod Worked
pub mod WorkedLone
pub mod WorkedStations
pub mod WorkedWay
pub mod WorkedYard
