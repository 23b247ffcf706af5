mod Answering
pub mod Endings
pub mod FirstFiles
mod LongLines
mod Making
mod Parting
pub mod SoundCommands
