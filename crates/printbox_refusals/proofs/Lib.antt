-- The proof that no entry gives another refusal: of films in Films, of jobs and writers in Jobs, of the strip printer in Strip, together in Refusals.
pub mod Films
pub mod Jobs
pub mod Strip
pub mod Refusals
