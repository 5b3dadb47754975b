-- Laws (that a call with room is not refused with 36); and the statement about streams, proved: Machine (the plain reading byte by byte), Refines (one byte of a
-- record), Streams, and Witness (that whatever comes makes a stream).
pub mod Laws
pub mod Machine
pub mod Refines
pub mod Streams
pub mod Witness
