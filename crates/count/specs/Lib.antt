-- In reading order: the COUNT rule; acts and runs of them; the facts of one record; from one record to a context; P1 to P14.
pub mod Rule
pub mod Run
pub mod Facts
pub mod Machine
pub mod Table
