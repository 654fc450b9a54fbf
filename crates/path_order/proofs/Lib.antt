mod NameStarts
pub mod NamesOrder
pub mod OrderLemmas
pub mod ParentLemmas
pub mod PathLemmas
pub mod SortLemmas
mod SpanLemmas
