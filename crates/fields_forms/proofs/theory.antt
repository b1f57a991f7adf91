-- Lemmas that other crates cite, so a change here affects them too.
pub mod GatewayTexts
pub mod LocationLemmas
pub mod LocationNumbers
pub mod LocationTexts
pub mod OneFields
pub mod PlainNameSizes
