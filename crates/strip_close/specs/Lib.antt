-- A call that 36 does not refuse: Usable.
pub mod Usable
