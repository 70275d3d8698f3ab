-- The edge of an order, and what each row trades, told by it.
pub mod Ranges
pub mod RangeLaws
pub mod Edge
pub mod Gathering
pub mod BestLaws
pub mod EdgeLaws
pub mod GatheringLaws
pub mod Shares
pub mod ShareLaws
pub mod Serving
pub mod ServingLaws
