pub mod theory
mod FoundNames
mod GatewayLaws
mod GatewayLemmas
mod HostLemmas
mod IdentityLaws
mod IdentityLemmas
mod LocationLaws
mod NameAtLemmas
mod NameSteps
