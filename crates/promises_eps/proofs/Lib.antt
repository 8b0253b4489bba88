-- Shapes, Passing, Numbers: what calls share. Soundness, Faults: the calls as a machine of crate count. Taking: a sealed message and what opening it leaves.
-- Messages: the EPS context as an instance of crate promise. Then a file for each statement, and Promises, all of them.
pub mod Shapes
pub mod Passing
pub mod Numbers
pub mod Soundness
pub mod Faults
pub mod Taking
pub mod Messages
pub mod Demand1
pub mod Demand2
pub mod Demand3
pub mod Delivery
pub mod Null
pub mod Skipped
pub mod Isolation
pub mod Tightness
pub mod Promises
pub mod Kept
