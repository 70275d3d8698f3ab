-- What is said of the rows that share an order.
pub mod Levels
pub mod Lent
pub mod LevelLaws
