-- Words that are read one by one.
use Rattle.std.proofs.Common.{◌≡◌, ◌∙◌, ℕ, zero, suc, ◌+◌, ◌<◌, ◌≤◌, List, [], ◌∷◌, ◌++◌, length, get_or, take, ap, subst, sym, arith}
use Rattle.std.specs.Prelude.{Option, Result, IfOk}
use Rattle.std.specs.Borrow.{Bor}
use Rattle.std.specs.List.{AllZip}
use Rattle.std.proofs.lemmas.List.{map-append, take_more}
use Rattle.std.proofs.lemmas.Slice.Zip.{all_zipped_more}
use Rattle.dnsmsg_tool.specs.ScriptWords.{LineWords, IsOnly, ReadsValue, texts}

-- the word at an index
abbrev pub word_at : LineWords → ℕ → List ℕ
word_at words i = (get_or words i (record { ref_ptr = (0, 0); now = [] })).now

module _ {X : Type 0} (Is : List ℕ → X → Type 0) where
  -- Each word has a value.
  pub each_at : (words : LineWords) (xs : List X) (i : ℕ) → i < length words → AllZip Is (texts words) xs → (x : X) × Is (word_at words i) x
  each_at [] xs i h are = absurd (omega arith)
  each_at (w ∷ words) [] i h are = absurd are
  each_at (w ∷ words) (x ∷ xs) zero h are = (x, are.0)
  each_at (w ∷ words) (x ∷ xs) (suc i) h are = each_at words xs i (omega arith) are.1

  -- One word more is read.
  pub each_more : (words : LineWords) (i : ℕ) (xs : List X) (x : X) → i < length words → AllZip Is (texts (take i words)) xs → Is (word_at words i) x
      → AllZip Is (texts (take (i + 1) words)) (xs ++ x ∷ [])
  each_more words i xs x h are is =
      let word : Bor (List ℕ) = get_or words i (record { ref_ptr = (0, 0); now = [] }) in
      let split : texts (take (i + 1) words) ≡ texts (take i words) ++ word.now ∷ [] =
      ap texts (take_more words i (record { ref_ptr = (0, 0); now = [] }) h) ∙ map-append (λ (w : Bor (List ℕ)). w.now) (take i words) (word ∷ []) in
      subst (λ (ws : List (List ℕ)). AllZip Is ws (xs ++ x ∷ [])) (sym split) (all_zipped_more Is (texts (take i words)) xs word.now x are is)

  -- The only word is read.
  pub only_read : {V E : Type 0} (view : V → X) (words : LineWords) (d : Bor (List ℕ)) (r : Result (Option V) E) → 1 ≤ length words → length words < 2
      → IfOk r (ReadsValue view (Is (get_or words 0 d).now)) → IfOk r (ReadsValue view (IsOnly Is words))
  only_read view [] d r least most reads = absurd (omega arith)
  only_read view (w ∷ []) d r least most reads = reads
  only_read view (w ∷ v ∷ words) d r least most reads = absurd (omega arith)
