-- What an opening promises: the rules of document 01 about its match at a price, as definitions, and their laws; and
-- how the program's columns are those of the definitions.
pub mod Opening
pub mod Answers
pub mod OpeningLaws
pub mod OpeningSums
pub mod OpeningSoundLaws
pub mod MatchingLaws
