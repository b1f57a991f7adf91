pub mod theory
mod AddressTexts
mod Base64Sizes
mod Calendar
mod EuiLemmas
mod LocatorSteps
mod NameLemmas
mod SaltLaws
mod SaltLemmas
mod SizedLemmas
mod TimeLemmas
