mod EntrySteps
mod ItemSteps
mod MessageSteps
mod NameSteps
mod SectionSteps
mod TableSteps
