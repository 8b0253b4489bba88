pub mod Walks
pub mod Within
pub mod Outer
pub mod Inside
pub mod Laws
pub mod Examples
