-- The proof of Demand 3, and the laws that it stands on: of rows (Rows), of pages and bands by their words (Pages), of a
-- draw's answers (Answers), of a list of calls (Calls) and of two sheets alike but for one band (Alike). Made shows that any list of steps makes
-- calls, by Told: the number of a draw's refusal is that of a fault.
pub mod Rows
pub mod Pages
pub mod Answers
pub mod Calls
pub mod Alike
pub mod Told
pub mod Made
pub mod Demand3
