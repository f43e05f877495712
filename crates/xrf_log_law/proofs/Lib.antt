pub mod LogLaw
mod InvariantLaw
pub mod PromiseEntries
mod AnswersLaw
mod EndsLaw
mod ClosedUnitsLaw
mod ShutUnits
mod AskedLaw
mod ReadsLaw
pub mod ConditionEntries
mod ConditionActs
pub mod KeyNumbers
pub mod InvariantEntries
pub mod InvariantActs
mod BeforeActs
mod SitesAfter
pub mod JobActs
pub mod RestartSteps
pub mod IdleJobs
pub mod WorkBegins
pub mod WorkActs
pub mod WorkInSequence
pub mod LastValues
pub mod DueInSequence
pub mod DueAtBoundary
pub mod DueOfItems
mod Boundaries
mod ServingEntries
mod ServingActs
mod ServingSteps
mod ActsOfPlans
mod TraceLedgers
mod RangeEntries
mod RangeActs
mod RecordRanges
mod OwnRanges
mod ValueRanges
pub mod StateActs
pub mod StateWrites
pub mod RecordLaws
pub mod BeforeImageLaws
pub mod SlotWrites
pub mod KeyWrites
pub mod ScanLaws
pub mod NewestParts
pub mod LedgerSteps
pub mod LedgerLaws
pub mod EndsInLog
pub mod BodySizes
pub mod Counts
mod SameRecords
pub mod Tests
