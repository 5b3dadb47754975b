-- The table that Print goes by.
pub mod Table
