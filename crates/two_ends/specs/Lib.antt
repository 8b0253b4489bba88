-- In reading order: the ends of a 5GS context's record; of an EPS context's; a toy. The statement is crate promise's, specs/TwoEnds.
pub mod FiveGs
pub mod Eps
pub mod Toy
