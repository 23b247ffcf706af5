pub mod TrieWorkedRuns
pub mod WorkedMaps
pub mod WorkedRanges
pub mod WorkedRows
pub mod WorkedSmall
