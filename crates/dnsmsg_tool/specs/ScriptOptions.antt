-- The words of OPT records in scripts. RFC 6891 sections 6.1.2 and 6.1.3.
use Rattle.std.specs.Prelude.{◌≡◌, ℕ, ◌==◌, ◌<◌, ◌≤◌, Bool, true, false, List, ◌∷◌, length, map, Option, Some, None, Ok, codes}
use Rattle.std.specs.List.{after_first, before_first, position_or_len, AllZip}
use Rattle.std.specs.Net.Grammar.{IsNumber}
use Rattle.hex.specs.Hex.{decode_of}
use Rattle.dns_edns.specs.OptData.{option_of}
use Rattle.dns_edns.specs.Options.{OptionItem}
use Rattle.dns_script.specs.declared.opt_plan.OptPlan.{OptPlan}
use Rattle.dnsmsg_tool.specs.ScriptWords.{LineWords, IsNumberUpTo, texts}

-- an extended RCODE, or `-` for none
abbrev pub IsRcodeWord : List ℕ → Option ℕ → Type 0
IsRcodeWord word None = word ≡ codes "-"
IsRcodeWord word (Some rcode) = IsNumberUpTo 4095 word rcode

-- a flag: the number 1 if it is set, else 0
abbrev pub IsFlagWord : List ℕ → Bool → Type 0
IsFlagWord word true = IsNumber 10 word 1
IsFlagWord word false = IsNumber 10 word 0

-- whether a character is a colon
abbrev pub is_colon : ℕ → Bool
is_colon c = c == 58

-- an option: its code before the first colon, and its data in hexadecimal digits after it
pub record IsOptionWord (word : List ℕ) (x : OptionItem) : Type 0 where
  pub has_colon : position_or_len is_colon word < length word
  pub code : IsNumberUpTo 65535 (before_first is_colon word) x.code
  pub octets : decode_of (after_first is_colon word) ≡ Ok x.octets
  pub short : length x.octets ≤ 65535

-- the words of the fields of an OPT record, and those of its options
pub record ArePlanFields (size_word rcode_word version_word flag_word : List ℕ) (option_words : LineWords) (plan : OptPlan) : Type 0 where
  pub size : IsNumberUpTo 65535 size_word plan.udp_payload_size
  pub rcode : IsRcodeWord rcode_word plan.rcode
  pub version : IsNumberUpTo 255 version_word plan.version
  pub dnssec_ok : IsFlagWord flag_word plan.dnssec_ok
  pub options : AllZip IsOptionWord (texts option_words) (map option_of plan.options.items)

-- an OPT record: the UDP payload size, the extended RCODE, the EDNS version, DO and the options
abbrev pub ArePlanWords : LineWords → OptPlan → Type 0
ArePlanWords (size ∷ rcode ∷ version ∷ flag ∷ options) plan = ArePlanFields size.now rcode.now version.now flag.now options plan
ArePlanWords words plan = ⊥
