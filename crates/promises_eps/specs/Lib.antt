-- In reading order: the calls and what they give; words; the three demands; 2 and 3 together; null integrity; how far a COUNT was; isolation; how tight the statements are.
pub mod Calls
pub mod Words
pub mod Demand1
pub mod Demand2
pub mod Demand3
pub mod Delivery
pub mod Null
pub mod Skipped
pub mod Isolation
pub mod Tightness
pub mod Promises
pub mod Kept
