-- What a copy leaves.
use Rattle.std.proofs.Common.{◌≡◌, ◌∙◌, ap, sym, refl, subst, ℕ, Bool, List, [], ◌∷◌}
use Rattle.std.specs.Prelude.{Option, Some, None, option_map, Result, Ok}
use Rattle.dns_name.specs.Names.{Fault}
use Rattle.dns_wire.specs.Encoders.{Rule}
use Rattle.dns_item.specs.Items.{RecordItem}
use Rattle.dns_item.specs.ParsedRecord.{EncodedRecord, encoded_record}
use Rattle.dns_item.specs.declared.parsed_record.ParsedRecord.{ParsedRecord}
use Rattle.dns_read.specs.declared.section.Section.{Section}
use Rattle.dns_read.specs.declared.section.Section.TheVariants.{Answer, Authority, Additional}
use Rattle.dns_build.specs.CopyRecords.{PushesKept, CopiesList, CopiesSection, CopiesSections, CopiesMessage}
use Rattle.dns_build.specs.CopyRecords.CopiesList.{none as no_record, copied as record_copied, refused, fault}
use Rattle.dns_build.specs.CopyRecords.CopiesSection.{started, unstarted}
use Rattle.dns_build.specs.CopyRecords.CopiesSections.{none as no_section, copied as section_copied, stopped}
use Rattle.dns_build.specs.KeptRecords.{with_copies, Keeps, KeepsSection, KeepsAll}
use Rattle.dns_build.specs.KeptRecords.Keeps.{none, dropped, kept}
use Rattle.dns_build.specs.State.{InAuthority, InAdditional, Stage, State, stage_of, with_records, move_to}
use Rattle.dns_build.proofs.theory.RecordLists.{no_records, one_more}
use Rattle.dns_build.specs.BuilderStates.{Built, Represents}
use Rattle.dns_build.specs.declared.copy_records_error.CopyRecordsError.{CopyRecordsError}

module _ {F R : Type 0} (call : F → ParsedRecord → Option R → F → Type 0) (item : R → RecordItem) (capacity : Option ℕ) (grows : Bool) (rule : Rule) where
  -- the closure returns some records of a reading, and the state has them in its section
  record KeepsList (stage : Stage) (xs : List (Result EncodedRecord Fault)) (f : F) (s : State) (g : F) (t : State) : Type 0 where
    items : List RecordItem
    keeps : Keeps call item xs f items g
    left : t ≡ with_records stage items s

  keeps_more : (stage : Stage) (shown : ParsedRecord) (outcome : Option R) (xs : List (Result EncodedRecord Fault)) (f g h : F) (s t u : State)
      → call f shown outcome g → PushesKept capacity grows rule stage (option_map item outcome) s (Ok tt) t → KeepsList stage xs g t h u → KeepsList stage (Ok (encoded_record shown) ∷ xs) f s h u
  keeps_more stage shown None xs f g h s t u called pushed k = record {
    items = k.items;
    keeps = dropped shown called k.keeps;
    left = k.left ∙ ap (with_records stage k.items) pushed.1;
  }
  keeps_more stage shown (Some outcome) xs f g h s t u called pushed k = record {
    items = item outcome ∷ k.items;
    keeps = kept shown outcome called k.keeps;
    left = k.left ∙ ap (with_records stage k.items) pushed.1 ∙ one_more stage (item outcome) k.items s;
  }

  keeps_list : (stage : Stage) {xs : List (Result EncodedRecord Fault)} {f g : F} {s t : State} {result : Result (Unit {0}) CopyRecordsError}
      → CopiesList call item capacity grows rule stage xs f s result g t → result ≡ Ok tt
      → KeepsList stage xs f s g t
  keeps_list stage {s = s} no_record e = record { items = []; keeps = none; left = no_records stage s }
  keeps_list stage {f = f} {g = h} {s = s} {t = u} (record_copied {xs = xs} one rest) e =
      subst (λ (x : EncodedRecord). KeepsList stage (Ok x ∷ xs) f s h u) one.represents
      (keeps_more stage one.shown one.kept xs f _ h s _ u one.called one.pushed (keeps_list stage rest e))
  keeps_list stage (refused one) e = absurd (cc)
  keeps_list stage fault e = absurd (cc)

  -- the same for a section of the message
  record KeepsOf (b : List ℕ) (section : Section) (f : F) (s : State) (g : F) (t : State) : Type 0 where
    items : List RecordItem
    keeps : KeepsSection call item b section f items g
    left : t ≡ with_records (stage_of section) items s

  keeps_section : (b : List ℕ) (section : Section) {f g : F} {s t : State} {result : Result (Unit {0}) CopyRecordsError}
      → CopiesSection call item capacity grows rule b section f s result g t → result ≡ Ok tt
      → KeepsOf b section f s g t
  keeps_section b section (started p starts copies) e =
      let k = keeps_list (stage_of section) copies e in
      record { items = k.items; keeps = record { start = p; starts = starts; keeps = k.keeps }; left = k.left }
  keeps_section b section (unstarted faulty) e = absurd (cc)

  -- copying sections copies the first, and then the others
  first_of : (b : List ℕ) (which : Section) (sections : List Section) {f h : F} {s u : State} {result : Result (Unit {0}) CopyRecordsError}
      → CopiesSections call item capacity grows rule b (which ∷ sections) f s result h u → result ≡ Ok tt
      → (g : F) × (t : State) × KeepsOf b which f (move_to (stage_of which) s) g t × CopiesSections call item capacity grows rule b sections g t result h u
  first_of b which sections (section_copied {g = g} {t = t} one rest) e = (g, t, keeps_section b which one refl, rest)
  first_of b which sections (stopped one) e = absurd (cc)

  none_left : (b : List ℕ) {f h : F} {s u : State} {result : Result (Unit {0}) CopyRecordsError} → CopiesSections call item capacity grows rule b [] f s result h u → s ≡ u
  none_left b no_section = refl

  -- if copying a message succeeds, the records that the closure returned for each section are in that section of the builder
  pub keeps_all : (b : List ℕ) (f : F) (s : State) (new : Built) → CopiesMessage call item capacity grows rule b f s (Ok new) → KeepsAll call item rule b f s new
  keeps_all b f s new m =
      let first = first_of b Answer (Authority ∷ Additional ∷ []) m.2 refl in
      let second = first_of b Authority (Additional ∷ []) first.3 refl in
      let third = first_of b Additional [] second.3 refl in
      let x = first.2 in
      let y = second.2 in
      let z = third.2 in
      let is : m.1 ≡ with_copies x.items y.items z.items s =
      sym (none_left b third.3) ∙ z.left
      ∙ ap (λ (t : State). with_records InAdditional z.items (move_to InAdditional t)) (y.left ∙ ap (λ (t : State). with_records InAuthority y.items (move_to InAuthority t)) x.left) in
      record {
        answers = x.items;
        authorities = y.items;
        additionals = z.items;
        after_answers = first.0;
        after_authorities = second.0;
        last = third.0;
        of_answers = x.keeps;
        of_authorities = y.keeps;
        of_additionals = z.keeps;
        represents = subst (λ (t : State). Represents InAdditional rule t new) is m.3;
      }
