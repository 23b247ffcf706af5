mod Seen
mod Counted
mod Flushed
mod Followed
