-- The entries of a section that can be read, as items of a JSON array.
use Rattle.std.specs.Prelude.{ℕ, Bool, false, is_ok, List, [], ◌∷◌, ◌++◌, map, Option, Some, None, Result, Ok, Err}
use Rattle.std.specs.List.{list_all}
use Rattle.json.specs.Json.{Json}
use Rattle.dns_name.specs.Names.{Fault}
use Rattle.dns_item.specs.ParsedRecord.{EncodedRecord}
use Rattle.json_print.specs.Values.{array_of}
use Rattle.json_print.specs.Texts.{json_text, comma_if}

module _ {X : Type 0} where
  -- the entries of a reading that can be read
  abbrev pub readable : List (Result X Fault) → List X
  readable [] = []
  readable (Ok x ∷ xs) = x ∷ readable xs
  readable (Err f ∷ xs) = readable xs

  -- the array of these entries
  abbrev pub entries_json : (X → Json) → List (Result X Fault) → Json
  entries_json json xs = array_of (map json (readable xs))

  -- the text of an entry in the array, after a comma if it follows another; none for a fault
  abbrev pub entry_text : (X → Json) → Bool → Result X Fault → List ℕ
  entry_text json later (Ok x) = comma_if later ++ json_text (json x)
  entry_text json later (Err f) = []

  -- whether each entry of a section can be read; not if the section has no start
  abbrev pub is_readable : Option (List (Result X Fault)) → Bool
  is_readable None = false
  is_readable (Some xs) = list_all is_ok xs

-- the offset after the records that can be read, of which the first begins at p
abbrev pub end_of : ℕ → List (Result EncodedRecord Fault) → ℕ
end_of p [] = p
end_of p (Ok x ∷ xs) = end_of x.entry.rdata_end xs
end_of p (Err f ∷ xs) = end_of p xs
