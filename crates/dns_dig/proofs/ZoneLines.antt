-- The line of a record beside its line in a zone file.
use Rattle.std.proofs.Common.{◌≡◌, ℕ, ◌+◌, ◌-◌, ◌/◌, ◌%◌, ◌<◌, ◌≤◌, List, [], ◌∷◌, ◌++◌, length, inl, inr, subst, refl, arith, append_assoc, append-nil, codes, decimal, lit<}
use Rattle.std.proofs.lemmas.Bool.{cases_eq, cases_lt}
use Rattle.std.proofs.lemmas.List.{length-replicate}
use Rattle.std.proofs.lemmas.List.Elements.{All-cons, All-nil, All-replicate}
use Rattle.std.specs.Prelude.{◌⊎◌, replicate}
use Rattle.fields_plain.specs.TypeNames.{class_word, type_word}
use Rattle.fields_plain.specs.ZoneNames.{zone_name_text}
use Rattle.dns_dig.specs.Columns.{begins_at, gap}
use Rattle.dns_dig.specs.Laws.{IsBlank, LinesAreZoneLines}
use Rattle.dns_dig.specs.Records.{record_data}
use Rattle.dns_dig.proofs.Gaps.{gap_before, gap_tab, gap_space}

-- a tab or a space
abbrev IsTabOrSpace : ℕ → Type 0
IsTabOrSpace c = (c ≡ 9) ⊎ (c ≡ 32)

tabs_blank : (n : ℕ) → 0 < n → IsBlank (replicate n 9)
tabs_blank n some = record { some = let l : length {A = ℕ} (replicate n 9) ≡ n = length-replicate n 9 in omega (arith, l); blanks = All-replicate IsTabOrSpace n 9 (inl refl) }

one_blank : (c : ℕ) → IsTabOrSpace c → IsBlank (c ∷ [])
one_blank c is = record { some = lit< tt; blanks = All-cons IsTabOrSpace c [] is (All-nil IsTabOrSpace) }

past_blank : (from column : ℕ) → column ≤ from → IsBlank (gap from column)
past_blank from column past = elim (cases_eq (from % 8) 7) [
  | inl last ↦ subst IsBlank (gap_tab from column past last) (one_blank 9 (inl refl))
  | inr other ↦ subst IsBlank (gap_space from column past other) (one_blank 32 (inr refl))
]

-- What precedes a text in a column is blank, if the column is a tab stop.
gap_blank : (from column : ℕ) → column % 8 ≡ 0 → IsBlank (gap from column)
gap_blank from column stop = elim (cases_lt from column) [
  | inl before ↦ let tabs : 0 < column / 8 - from / 8 = omega arith in subst IsBlank (gap_before from column before) (tabs_blank (column / 8 - from / 8) tabs)
  | inr past ↦ past_blank from column past
]

spread : (a b c d e f g h v : List ℕ) → (a ++ (b ++ (c ++ (d ++ (e ++ (f ++ (g ++ (h ++ [])))))))) ++ (v ++ codes "\n") ≡ a ++ b ++ c ++ d ++ e ++ f ++ g ++ h ++ v ++ codes "\n"
spread a b c d e f g h v = simp (append_assoc, append-nil)

-- Each record has the line of a zone file, but for its blanks.
pub zone_lines : LinesAreZoneLines
zone_lines x =
    let owner = zone_name_text x.entry.owner in
    let ttl = decimal x.entry.ttl in
    let class = class_word x.entry.class in
    let rtype = type_word x.entry.rtype in
    let n = length owner in
    let m = begins_at n 24 + length ttl in
    let k = begins_at m 32 + length class in
    let l = begins_at k 40 + length rtype in
    record {
      ttl_gap = gap n 24;
      class_gap = gap m 32;
      type_gap = gap k 40;
      data_gap = gap l 48;
      blank = (gap_blank n 24 refl, gap_blank m 32 refl, gap_blank k 40 refl, gap_blank l 48 refl);
      line = spread owner (gap n 24) ttl (gap m 32) class (gap k 40) rtype (gap l 48) (record_data x);
      zone_line = refl;
    }
