-- A value that is printed through a writer of std.
use Rattle.std.proofs.Common.{◌≡◌, ◌∙◌, ℕ, List, [], ◌∷◌, ap, sym, subst}
use Rattle.std.specs.Prelude.{IfSome, OnOk, Option, Some, None, Result, Ok, Err}
use Rattle.std.specs.declared.fmt.Error.{Error}
use Rattle.std.specs.List.{FoldsTo, concat}
use Rattle.std.specs.Fmt.{WritesInCalls, WritesText}
use Rattle.dns_print.specs.Printing.{PrintsOnOk}
use Rattle.dns_print.specs.declared.value.AsWrite.{AsWrite}
use Rattle.dns_print.proofs.theory.Prints.{print_none, print_append}

module _ {T : Type 0} (takes : T → List ℕ → T → Type 0) where
  -- what the writer of std takes
  abbrev pub LentTakes : AsWrite T → List ℕ → AsWrite T → Type 0
  LentTakes old text new = WritesInCalls takes old.0.now text new.0.now × (new.0.ghost_name ≡ old.0.ghost_name)

  lent_calls : (old : AsWrite T) (texts : List (List ℕ)) (new : AsWrite T) → FoldsTo LentTakes old texts new → LentTakes old (concat texts) new
  lent_calls old [] new same = (
    subst (λ (x : AsWrite T). WritesInCalls takes old.0.now [] x.0.now) same (print_none takes old.0.now),
    ap (λ (x : AsWrite T). x.0.ghost_name) (sym same),
  )
  lent_calls old (text ∷ texts) new calls =
      let others = lent_calls calls.0 texts new calls.2 in
      (print_append takes old.0.now calls.0.0.now new.0.now text (concat texts) calls.1.0 others.0, others.1 ∙ calls.1.1)

  -- The text of a value, if it is known. `last` is what the writer named `name` is in the end.
  pub value_printed : (old new : AsWrite T) (r : Result (Unit {0}) Error) (written : Option (List ℕ)) (name : ℕ) (last : T) → (name ≡ new.0.ghost_name → last ≡ new.0.now) → name ≡ old.0.ghost_name
      → OnOk r (WritesText LentTakes old written new) → IfSome written (λ text. PrintsOnOk takes old.0.now r text last)
  value_printed old new r None name last tie same writes = tt
  value_printed old new (Err e) (Some text) name last tie same writes = λ ok. cc
  value_printed old new (Ok u) (Some text) name last tie same writes = λ ok.
      let lent = lent_calls old writes.parts new writes.calls in
      subst (λ (v : T). WritesInCalls takes old.0.now text v) (sym (tie (same ∙ sym lent.1)))
      (subst (λ (t : List ℕ). WritesInCalls takes old.0.now t new.0.now) writes.whole lent.0)
