-- What the promises of every context share. In reading order: what a call gives; a run of calls in words; what is kept of it; messages and what opening them
-- does; limits; two ends and a bad channel, and what a context shows of its ends. A context's promises are its own statements, in its own crate. What is said
-- here is to be believed as far as those cite it: Outcomes and TwoEnds. The rest is how they are proved, once for every context.
pub mod Outcomes
pub mod Words
pub mod Kept
pub mod Messages
pub mod Limits
pub mod TwoEnds
pub mod Ends
