pub mod Transcript
pub mod Running
pub mod WholeRun
