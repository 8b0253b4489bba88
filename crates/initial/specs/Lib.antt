-- In reading order: a part, the messages, the walk and the container, the cleartext message, the container's message; what holds of them.
pub mod Parts
pub mod Messages
pub mod Walk
pub mod Outer
pub mod Inside
pub mod Laws
