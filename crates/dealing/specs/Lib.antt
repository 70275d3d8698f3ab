-- What an entry makes of a book: the rules of document 01 about a turn's entry, as definitions over the parts of a
-- series, and their laws. Files whose names end in Laws prove; the others state.
pub mod Came
pub mod Floor
pub mod Credit
pub mod CreditLaws
pub mod Settle
pub mod SettleLaws
pub mod Reach
pub mod Deal
pub mod Sound
pub mod Demands
pub mod ReachLaws
pub mod TradeLaws
pub mod OrderLaws
pub mod DealLaws
pub mod Way
pub mod Open
pub mod OpenLaws
pub mod WayLaws
pub mod SumLaws
pub mod SoundLaws
