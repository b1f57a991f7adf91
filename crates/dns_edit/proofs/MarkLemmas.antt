-- Marks of offsets as bits.
use Rattle.std.proofs.Common.{◌≡◌, ◌≢◌, ◌∙◌, ℕ, zero, suc, ◌*◌, ◌/◌, ◌%◌, ◌^◌, ◌<◌, ◌≤◌, inl, inr, List, [], length, min, replicate, arith, refl, sym, ap, get_or, get_or-set_same, get_or-set_other, w8}
use Rattle.std.specs.Prelude.{bit_or, slice_index, slice_set}
use Rattle.std.specs.Int.{bit_at}
use Rattle.std.proofs.Math.ListN.{length-set}
use Rattle.std.proofs.lemmas.Bool.{cases_eq}
use Rattle.std.proofs.lemmas.List.{length-replicate}
use Rattle.std.proofs.lemmas.Nat.Bits.{bit_at-zero, bit_at_set_same, bit_at_set_other}
use Rattle.dns_name.specs.Names.{pointer_end}
use Rattle.dns_edit.specs.Marks.{MarksLabels, SetsMark}

not_both : (m : ℕ) → m ≡ 0 → m ≡ 1 → ⊥
not_both m e f = omega arith

-- an octet that is 0 has no bit
no_bit : (n i : ℕ) → n ≡ 0 → bit_at n i ≡ 1 → ⊥
no_bit n i e h = not_both (bit_at n i) (ap (λ n. bit_at n i) e ∙ bit_at-zero i) h

module _ (marks : List ℕ) (at octet : ℕ) (within : at / 8 < length marks) (is : octet ≡ get_or marks (at / 8) 0) where
  abbrev changed : ℕ
  changed = bit_or octet (1 * 2 ^ (at % 8) % 256)

  abbrev after : List ℕ
  after = slice_set marks (at / 8) changed

  in_octet : at % 8 < 8
  in_octet = omega arith

  there : get_or after (at / 8) 0 ≡ changed
  there = get_or-set_same marks (at / 8) changed 0 within

  here : (t : ℕ) → t / 8 ≡ at / 8 → get_or after (t / 8) 0 ≡ changed
  here t e = ap (λ j. get_or after j 0) e ∙ there

  -- The bit of an offset is set.
  pub sets_mark : SetsMark marks after at
  sets_mark = record {
    long = length-set marks (at / 8) changed;
    set = λ l. ap (λ n. bit_at n (at % 8)) there ∙ bit_at_set_same w8 octet (at % 8) in_octet;
    kept = λ t h. elim (cases_eq (t / 8) (at / 8)) [
      | inl e ↦
          let old : bit_at octet (t % 8) ≡ 1 = ap (λ n. bit_at n (t % 8)) (is ∙ ap (λ j. get_or marks j 0) (sym e)) ∙ h in
          elim (cases_eq (t % 8) (at % 8)) [
            | inl same ↦ ap (λ n. bit_at n (t % 8)) (here t e) ∙ ap (bit_at changed) same ∙ bit_at_set_same w8 octet (at % 8) in_octet
            | inr other ↦ ap (λ n. bit_at n (t % 8)) (here t e) ∙ bit_at_set_other w8 octet (at % 8) in_octet (t % 8) other ∙ old
          ]
      | inr ne ↦ ap (λ n. bit_at n (t % 8)) (get_or-set_other marks (at / 8) (t / 8) changed 0 ne) ∙ h
    ];
    others = λ t h ne. elim (cases_eq (t / 8) (at / 8)) [
      | inl e ↦
          let other : t % 8 ≢ at % 8 = λ same. ne (omega arith) in
          ap (λ n. bit_at n (t % 8)) (ap (λ j. get_or marks j 0) e ∙ sym is) ∙ sym (bit_at_set_other w8 octet (at % 8) in_octet (t % 8) other)
          ∙ sym (ap (λ n. bit_at n (t % 8)) (here t e)) ∙ h
      | inr apart ↦ sym (ap (λ n. bit_at n (t % 8)) (get_or-set_other marks (at / 8) (t / 8) changed 0 apart)) ∙ h
    ];
  }

zeros : (n k : ℕ) → slice_index (replicate n 0) k ≡ 0
zeros zero k = refl
zeros (suc n) zero = refl
zeros (suc n) (suc k) = zeros n k

-- No mark is set before the first name.
pub none_marked : (b : List ℕ) (n : ℕ) → min (length b) pointer_end ≤ n * 8 → MarksLabels b [] (replicate n 0)
none_marked b n l = record {
  enough = let none : ℕ = 0 in let e = length-replicate n none in omega arith;
  set = λ t h. absurd (no_bit (slice_index (replicate n 0) (t / 8)) (t % 8) (zeros n (t / 8)) h);
  labels = λ t x. absurd x;
}
