-- How a new order is turned down: the rules of document 01 as definitions, and the laws about them.
pub mod TurnDown
pub mod WidthLaws
pub mod AsJudgedLaws
pub mod TurnDownLaws
pub mod Words
