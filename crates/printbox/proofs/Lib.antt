-- That `film_check` and `film_draw` keep the promises of which demand 3 speaks: Draws. Widths that have no linefill: Widths.
pub mod Draws
pub mod Widths
