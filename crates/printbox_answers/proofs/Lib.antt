-- The numbers of a code's answer are those of the answer that it stands for: Laws.
pub mod Laws
