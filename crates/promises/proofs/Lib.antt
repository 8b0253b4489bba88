-- Shapes, Passing, Numbers: what calls share. Soundness, Faults: the calls as a machine of crate count. Opening, Taking: a sealed message and what opening it
-- leaves. Messages: the 5GS context as an instance of crate promise. Then a file for each statement, and Promises, all of them.
pub mod Shapes
pub mod Passing
pub mod Numbers
pub mod Soundness
pub mod Opening
pub mod Taking
pub mod Seconds
pub mod Faults
pub mod Messages
pub mod Demand1
pub mod Demand2
pub mod Containers
pub mod Accepting
pub mod Demand3
pub mod Delivery
pub mod Null
pub mod Skipped
pub mod Isolation
pub mod Tightness
pub mod Lent
pub mod Promises
pub mod Kept
