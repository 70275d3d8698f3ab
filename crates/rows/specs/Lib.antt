-- What is said of the rows of a book.
pub mod Rows
pub mod RowLaws
pub mod Passes
