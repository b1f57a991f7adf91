-- What is printed of a prefix is one word.
use Rattle.std.proofs.Common.{◌<◌, ◌^◌}
use Rattle.hex.specs.Hex.{IsBytes}
use Rattle.fields_lists.specs.PrefixItems.{PrefixItem}
use Rattle.fields_lists.specs.Prefixes.{prefix_text}
use Rattle.fields_text.specs.LineWords.{IsWord}
use Rattle.fields_lists.proofs.theory.PrefixTexts.{prefix_is_word as bare_prefix_is_word}
use Rattle.fields_text.proofs.theory.WordTexts.{is_word}

-- The text of an address prefix is a word.
pub prefix_is_word : (item : PrefixItem) → IsBytes item.address → item.family < 2 ^ 16 → item.size < 256 → IsWord (prefix_text item)
prefix_is_word item first second third = is_word (bare_prefix_is_word item first second third)
