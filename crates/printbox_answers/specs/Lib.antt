-- The numbers of each answer of the definitions: Numbers; and of the code's answers: Code.
pub mod Numbers
pub mod Code
