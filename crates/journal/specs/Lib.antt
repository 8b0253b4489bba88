-- In reading order: a record, what a journal reads as, a writer's answer, a position of a window; what holds of them.
pub mod Records
pub mod Items
pub mod Write
pub mod Window
pub mod Laws
