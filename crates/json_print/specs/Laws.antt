-- What is true of the texts of JSON values.
use Rattle.std.specs.Prelude.{◌≡◌, ◌≤◌, Some}
use Rattle.json.specs.Json.{Json, document, max_depth}
use Rattle.json.specs.Tree.{depth, HasNumbers}
use Rattle.json_print.specs.Texts.{json_text}

-- A value is what its text is read as, if its numbers are numbers of JSON and it nests at most 128 deep.
abbrev pub TextsReadBack : Type 0
TextsReadBack = (j : Json) → HasNumbers j → depth j ≤ max_depth → document (json_text j) ≡ Some j
