mod Walking
mod Past
mod Bare
mod Granted
mod Writing
mod Settling
