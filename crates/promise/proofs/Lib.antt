-- Acts: what a call makes of a context, by the act that it does on a record. Answers: when a message is taken as a COUNT, by what its opening finds. Kept: what
-- is kept over any calls. Messages: messages opened after them. Limits. Numbers: which refusals a list can give. Sealed: a message and its parts. Told: what demand 1
-- says of an outcome. Steady: a record whose window size stays. Ends: two ends.
pub mod Acts
pub mod Answers
pub mod Kept
pub mod Messages
pub mod Limits
pub mod Numbers
pub mod Sealed
pub mod Told
pub mod Steady
pub mod Ends
pub mod Read
