mod Lengths
mod Utf8
mod Strings
pub mod Moves
pub mod Back
pub mod BackWords
pub mod Runs
pub mod Exact
pub mod PrintedTexts
pub mod PrintedCode
pub mod Printed
pub mod Lexing
pub mod Stops
pub mod DenotedTexts
pub mod FaultyTexts
pub mod Table
pub mod Viable
pub mod GatheredCode
pub mod GatheredFields
pub mod Atoms
pub mod PrintableModules
pub mod NamedBack
pub mod LimitedBack
pub mod LaidOut
pub mod AsciiText
pub mod ReadBack
