-- Truth values that stand for statements, rules that are computed over a table, and statements about a range.
pub mod Tests
