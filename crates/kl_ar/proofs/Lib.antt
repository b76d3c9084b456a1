mod Cutting
mod Digits
mod Ends
mod Grammars
mod Rows
mod Walks
