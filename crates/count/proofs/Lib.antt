-- Words and Bits: numbers as bits. Distance, Candidates, Skipped: which COUNT a message may have, and how far away. Law, Runs, Openings: the facts of one record. Starts, Null,
-- Lifting, Numbers: where runs may begin, null integrity, contexts, the table.
pub mod Words
pub mod Bits
pub mod Distance
pub mod Candidates
pub mod Skipped
pub mod Law
pub mod Runs
pub mod Openings
pub mod Starts
pub mod Null
pub mod Lifting
pub mod Numbers
