pub mod theory
mod SerialLemmas
mod OwnerLemmas
mod KindLemmas
mod StepLemmas
mod MessageLemmas
mod ActLemmas
mod ZoneLemmas
mod TransferLemmas
mod ReadForms
mod FormShapes
