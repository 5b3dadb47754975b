-- What filling a band means.
pub mod Puts
