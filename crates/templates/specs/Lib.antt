pub mod Kind
pub mod Says
pub mod Answer
