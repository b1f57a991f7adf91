-- The hints that names leave.
use Rattle.std.proofs.Common.{◌≡◌, ℕ, ◌<◌, ◌≤◌, ◌⊎◌, List, set, inl, inr, arith, ap, sym, subst, refl}
use Rattle.std.proofs.lemmas.List.Elements.{All-replicate, All-set, All-weaker}
use Rattle.dns_code.specs.HeaderSection.{header_size}
use Rattle.dnsm_put.specs.declared.draft.Draft.{Draft}
use Rattle.dnsm_put.specs.Drafts.{empty_draft}
use Rattle.dnsm_put.specs.Writing.{HintsWithin}

-- 0, or an offset before `end`
abbrev IsHint : ℕ → ℕ → Type 0
IsHint end hint = (hint ≡ 0) ⊎ ((header_size ≤ hint) × (hint < end))

hint_later : (a b hint : ℕ) → a ≤ b → IsHint a hint → IsHint b hint
hint_later a b hint low (inl none) = inl none
hint_later a b hint low (inr h) = let less = h.1 in inr (h.0, omega arith)

-- Hints are before any later end.
pub hints_later : (hints : List ℕ) (a b : ℕ) → a ≤ b → HintsWithin a hints → HintsWithin b hints
hints_later hints a b low h = All-weaker (IsHint a) (IsHint b) (λ hint is. hint_later a b hint low is) hints h

-- The offset of a name becomes a hint.
pub own_hint : (hints : List ℕ) (end slot own : ℕ) → header_size ≤ own → own < end → HintsWithin end hints → HintsWithin end (set hints slot own)
own_hint hints end slot own low less h = All-set (IsHint end) hints slot own (inr (low, less)) h

-- An empty draft has no hint.
pub no_hints : (d : Draft) (id flags : ℕ) → d ≡ empty_draft id flags → HintsWithin header_size d.hints
no_hints d id flags is =
    let P : List ℕ → Type 0 = λ hints. HintsWithin header_size hints in
    subst P (sym (ap (λ (e : Draft). e.hints) is)) (All-replicate (IsHint header_size) 64 0 (inl refl))
