pub mod theory
mod CanonicalOrders
mod ComparedOctets
mod ComposedFields
mod FieldLemmas
mod Iterated
mod MadeData
mod OrderedData
mod OwnedCopies
mod OwnOrders
mod OwnTypes
mod RangeLemmas
mod RowLemmas
mod Skipped
mod SkipSteps
mod TableLemmas
mod Views
