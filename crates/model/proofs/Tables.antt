-- Worked out by the checker: cases, examples, recorded jobs, exceptions, an instance of demand 3.
pub mod Cases
pub mod Examples
pub mod Recorded
pub mod Exceptions
pub mod Instance
