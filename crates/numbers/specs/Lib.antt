pub mod ScriptNum
pub mod Answer
