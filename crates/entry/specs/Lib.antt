-- An entry and what it meets: the rules of document 01 about their form as definitions, and the laws about them.
pub mod Numbers
pub mod Settings
pub mod Entry
pub mod Quotes
pub mod NumberLaws
pub mod SettingsLaws
pub mod EntryLaws
pub mod QuoteLaws
pub mod Words
pub mod Refusals
