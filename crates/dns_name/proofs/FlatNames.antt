-- Names that are encoded without a pointer.
use Rattle.std.proofs.Common.{◌≡◌, ℕ, ◌+◌, ◌-◌, ◌≤◌, List, [], ◌∷◌, ◌++◌, length, length-append, length-drop, take, drop, append_assoc, arith, ap, sym, ◌∙◌, subst}
use Rattle.std.specs.Prelude.{Ok}
use Rattle.std.proofs.lemmas.List.Elements.{All-head}
use Rattle.std.proofs.Math.Seq.{drop-append_seam, take-append_seam}
use Rattle.dns_name.specs.Names.{Labels, IsLabel, uncompressed, head_at, NameAt, label_at}
use Rattle.dns_name.specs.declared.head.Head.TheVariants.{Root, Label, Pointer}
use Rattle.dns_name.specs.Unique.{length_label, encoded_name}
use Rattle.dns_name.proofs.theory.HeadLemmas.{root_begins, label_begins, at_root, at_label}
use Rattle.dns_name.proofs.theory.LabelsLemmas.{length-uncompressed}
use Rattle.dns_name.proofs.theory.UncompressedNames.{drop_label, drop_root, get_drop}

-- A walk from `start` has only met labels up to `at`, where the name's remaining labels are encoded. So the octets from
-- `start` on are the uncompressed name exactly if those from `at` on are the uncompressed remaining labels.
pub record Flat (b : List ℕ) (start at : ℕ) (whole : Labels) : Type 0 where
  pub rest : Labels
  pub encoded : NameAt b at rest
  pub whole_if : (after : List ℕ) → drop at b ≡ uncompressed rest ++ after → drop start b ≡ uncompressed whole ++ after
  pub rest_if : (after : List ℕ) → drop start b ≡ uncompressed whole ++ after → drop at b ≡ uncompressed rest ++ after

-- Before the first label that a walk skips, the rest is the whole name.
pub flat_none : (b : List ℕ) (p : ℕ) (name : Labels) → NameAt b p name → Flat b p p name
flat_none b p name s = record { rest = name; encoded = s; whole_if = λ after e. e; rest_if = λ after e. e }

-- The uncompressed octets of a label and a name after it.
label_octets : (b : List ℕ) (at n : ℕ) (name : Labels) (after : List ℕ) → at + 1 + n ≤ length b
    → uncompressed (label_at b at n ∷ name) ++ after ≡ n ∷ (label_at b at n ++ (uncompressed name ++ after))
label_octets b at n name after fits =
    append_assoc (length (label_at b at n) ∷ label_at b at n) (uncompressed name) after
    ∙ ap (λ k. k ∷ (label_at b at n ++ (uncompressed name ++ after))) (length_label b at n fits)

-- The walk continues after a label.
pub flat_label : (b : List ℕ) (start at n at' : ℕ) (whole : Labels) → Flat b start at whole → head_at b at ≡ Ok (Label n) → at' ≡ at + 1 + n → Flat b start at' whole
flat_label b start at n at' whole f h e =
    let l = at_label b f.encoded h in
    let whole_rest : uncompressed f.rest ≡ uncompressed (label_at b at n ∷ l.others) = ap uncompressed l.whole in
    subst (λ k. Flat b start k whole) (sym e) (record {
      rest = l.others;
      encoded = l.is_encoded;
      whole_if = λ after d.
          f.whole_if after (drop_label b at n h ∙ ap (λ (c : List ℕ). n ∷ (label_at b at n ++ c)) d ∙ sym (label_octets b at n l.others after l.fits)
          ∙ ap (λ (c : List ℕ). c ++ after) (sym whole_rest));
      rest_if = λ after d.
          let same : (n ∷ label_at b at n) ++ drop (at + 1 + n) b ≡ (n ∷ label_at b at n) ++ (uncompressed l.others ++ after) =
          sym (drop_label b at n h) ∙ f.rest_if after d ∙ ap (λ (c : List ℕ). c ++ after) whole_rest ∙ label_octets b at n l.others after l.fits in
          sym (drop-append_seam (n ∷ label_at b at n) (drop (at + 1 + n) b)) ∙ ap (drop (length (n ∷ label_at b at n))) same
          ∙ drop-append_seam (n ∷ label_at b at n) (uncompressed l.others ++ after);
    })

-- At the root label, the octets from `start` on are the uncompressed name.
pub flat_root : (b : List ℕ) (start at : ℕ) (whole : Labels) → Flat b start at whole → head_at b at ≡ Ok Root → drop start b ≡ uncompressed whole ++ drop (at + 1) b
flat_root b start at whole f h =
    f.whole_if (drop (at + 1) b) (drop_root b at h ∙ ap (λ (name : Labels). uncompressed name ++ drop (at + 1) b) (sym (at_root b f.encoded h)))

-- At a pointer they aren't.
pub flat_pointer : (b : List ℕ) (start at t : ℕ) (whole : Labels) → Flat b start at whole → head_at b at ≡ Ok (Pointer t) → (after : List ℕ) → drop start b ≡ uncompressed whole ++ after → ⊥
flat_pointer b start at t whole f h after e = go f.rest f.encoded (f.rest_if after e)
  where
    go : (rest : Labels) → NameAt b at rest → drop at b ≡ uncompressed rest ++ after → ⊥
    go [] s d = let r = root_begins b at (get_drop b at 0 after d) in cc (r, h)
    go (label ∷ rest) s d =
        let l = All-head IsLabel label rest (encoded_name s).labels in
        let r = label_begins b at (length label) l.some l.short (get_drop b at (length label) ((label ++ uncompressed rest) ++ after) d) in
        cc (r, h)

-- Octets that begin with an uncompressed name are at least as long as it.
pub flat_within : (b : List ℕ) (start : ℕ) (name : Labels) (after : List ℕ) → drop start b ≡ uncompressed name ++ after → start + length (uncompressed name) ≤ length b
flat_within b start name after e =
    let size = length-drop start b in
    let long = ap length e ∙ length-append (uncompressed name) after in
    let some = length-uncompressed name in
    omega arith

-- Their first octets, as many as the name takes, are the uncompressed name.
pub flat_octets : (b : List ℕ) (start size : ℕ) (name : Labels) (after : List ℕ) → drop start b ≡ uncompressed name ++ after → size ≡ length (uncompressed name)
    → take (start + size - start) (drop start b) ≡ uncompressed name
flat_octets b start size name after e is =
    let k : start + size - start ≡ length (uncompressed name) = omega (arith, is) in
    rw k (ap (take (length (uncompressed name))) e ∙ take-append_seam (uncompressed name) after)
