pub mod theory
mod AnyOrderLemmas
mod Base64Lemmas
mod CommaLemmas
mod ItemKinds
mod ItemSteps
mod KeyLemmas
mod KeyMarkLemmas
mod MapLemmas
mod MarkedWords
mod NamedKeys
mod ParameterLaws
mod ParameterLemmas
mod PrintedProtocols
mod ProtocolLemmas
mod PushLemmas
mod SpelledLemmas
mod ValueLemmas
