-- The opening price: the rules as definitions, and the laws about them.
pub mod Amounts
pub mod AmountLaws
pub mod Price
pub mod PriceLaws
pub mod Midpoint
pub mod Words
pub mod Examples
