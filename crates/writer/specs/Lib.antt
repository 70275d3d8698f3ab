-- What the writer promises: the bytes of one event, or why there are none; and how writing and reading fit together, for
-- one event and for whole tapes.
pub mod Refusal
pub mod Write
pub mod Tapes
pub mod WriteLaws
pub mod Rewriting
pub mod RewritingLaws
pub mod RoundTrip
pub mod RoundTripProof
pub mod Examples
