-- The laws of what is printed that are cited here.
use Rattle.fields_text.specs.Laws.{Base64ReadsBack, HexReadsBack, StringsReadBack, Base64IsWord, HexIsWord, NumbersAreWords, StringsAreWords, TagsAreWords}
use Rattle.fields_plain.specs.Laws.{EuiReadsBack, HashesReadBack, Ipv4ReadsBack, Ipv6ReadsBack, LocatorsReadBack, NamesReadBack, SaltsReadBack, TypesReadBack, EuiAreWords, HashesAreWords, Ipv4IsWord, Ipv6IsWord, LocatorsAreWords, NamesAreWords, SaltsAreWords, TimesAreWords, TypesAreWords, SizedSplit}
use Rattle.fields_forms.specs.Laws.{GatewaysReadBack, IdentitiesReadBack, LocationsReadBack, RelaysReadBack, GatewaysSplit, IdentitiesSplit, RelaysSplit}
use Rattle.fields_lists.specs.Laws.{PrefixFieldsReadBack, SmallTypeMapsReadBack, TypeMapsReadBack, PrefixesSplit, StringsSplit, TypesSplit}
use Rattle.fields_parameters.specs.Laws.{ParametersReadBack, ParametersSplit}
use Rattle.fields_forms.specs.LocationLaws.{LocationsSplit}

-- a value is one word
pub record WordLaws : Type 0 where
  pub numbers : NumbersAreWords
  pub types : TypesAreWords
  pub times : TimesAreWords
  pub names : NamesAreWords
  pub strings : StringsAreWords
  pub tags : TagsAreWords
  pub salts : SaltsAreWords
  pub hashes : HashesAreWords
  pub ipv4 : Ipv4IsWord
  pub ipv6 : Ipv6IsWord
  pub locators : LocatorsAreWords
  pub eui : EuiAreWords
  pub hexadecimal : HexIsWord
  pub base64 : Base64IsWord

-- a list of values is these words
pub record ListLaws : Type 0 where
  pub sized : SizedSplit
  pub strings : StringsSplit
  pub types : TypesSplit
  pub parameters : ParametersSplit
  pub prefixes : PrefixesSplit
  pub locations : LocationsSplit
  pub gateways : GatewaysSplit
  pub relays : RelaysSplit
  pub identities : IdentitiesSplit

-- they read back
pub record ReadingLaws : Type 0 where
  pub types : TypesReadBack
  pub names : NamesReadBack
  pub strings : StringsReadBack
  pub salts : SaltsReadBack
  pub hashes : HashesReadBack
  pub ipv4 : Ipv4ReadsBack
  pub ipv6 : Ipv6ReadsBack
  pub locators : LocatorsReadBack
  pub eui : EuiReadsBack
  pub hexadecimal : HexReadsBack
  pub base64 : Base64ReadsBack
  pub type_maps : TypeMapsReadBack
  pub small_type_maps : SmallTypeMapsReadBack
  pub parameters : ParametersReadBack
  pub prefixes : PrefixFieldsReadBack
  pub locations : LocationsReadBack
  pub gateways : GatewaysReadBack
  pub relays : RelaysReadBack
  pub identities : IdentitiesReadBack

pub record PrintedLaws : Type 0 where
  pub words : WordLaws
  pub lists : ListLaws
  pub reading : ReadingLaws
