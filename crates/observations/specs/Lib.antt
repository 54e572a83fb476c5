pub mod Laws
pub mod Origins
pub mod Seen
pub mod ObservedTraceCode
pub mod ObservedTraces
