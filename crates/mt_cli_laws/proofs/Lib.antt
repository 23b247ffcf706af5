pub mod CommentLines
pub mod Made
pub mod OneOutput
pub mod SomeOutput
