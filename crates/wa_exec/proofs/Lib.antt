pub mod Typing
pub mod Entries
pub mod Bodies
pub mod Ready
pub mod Making
pub mod OneEnding
pub mod CodeRuns
