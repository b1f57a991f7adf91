-- That the fixed texts of a page have no script and refer to no other file. HTML Living Standard sections 4.12.1 and 8.1.8.1, CSS Cascading 4 section 2, CSS Values 4 section 4.5.
use Rattle.std.specs.Prelude.{ℕ, ◌++◌, ◌||◌, not, nat_eq, Bool, false, IsTrue, List, [], ◌∷◌, map, codes}
use Rattle.std.specs.Char.{to_ascii_lowercase}
use Rattle.std.specs.List.{list_all, starts_with}
use Rattle.dnsview_rows.specs.declared.row.RowKind.{RowKind}
use Rattle.dnsview_tool.specs.Pages.{letter_of}
use Rattle.dnsview_tool.specs.declared.html.TheConstants.{HEAD, LEGEND, STYLE}

-- whether a text has a part of one octet or more
abbrev pub has_part : List ℕ → List ℕ → Bool
has_part part [] = false
has_part part (octet ∷ text) = starts_with nat_eq (octet ∷ text) part || has_part part text

-- what begins a script, or refers to another file: the elements and attributes that do in HTML, and the two ways of CSS
abbrev pub outward_parts : List (List ℕ)
outward_parts =
    codes "<script" ∷ codes "javascript:" ∷ codes " on" ∷ codes "src" ∷ codes "<link" ∷ codes "href=" ∷ codes "<base" ∷ codes "http-equiv" ∷ codes "@import" ∷ codes "url(" ∷ codes "//" ∷ []

-- whether a text has none of these parts, ignoring ASCII case
abbrev pub is_self_contained : List ℕ → Bool
is_self_contained text = list_all (λ part. not (has_part part (map to_ascii_lowercase text))) outward_parts

-- the fixed texts of a page, before, between and after its title and first line, have none of these parts
abbrev pub HeadsAreSelfContained : Type 0
HeadsAreSelfContained = IsTrue (is_self_contained HEAD.now) × IsTrue (is_self_contained STYLE.now) × IsTrue (is_self_contained LEGEND.now)

-- the style has a rule for the class of each row's colour, and the legend names it
abbrev pub ColoursHaveRules : Type 0
ColoursHaveRules = (kind : RowKind) → IsTrue (has_part (codes "." ++ letter_of kind) STYLE.now)

abbrev pub ColoursAreNamed : Type 0
ColoursAreNamed = (kind : RowKind) → IsTrue (has_part (codes "<span class=\"" ++ letter_of kind ++ codes "\">") LEGEND.now)

-- the style has rules for the classes of the page's parts: the grid, the list, a page that draws all arrows, the legend
abbrev pub PartsHaveRules : Type 0
PartsHaveRules = IsTrue (has_part (codes ".grid ") STYLE.now) × IsTrue (has_part (codes ".list ") STYLE.now) × IsTrue (has_part (codes ".few ") STYLE.now)
    × IsTrue (has_part (codes ".legend ") STYLE.now)
