-- Text that a sink was given.
use Rattle.std.proofs.Common.{◌≡◌, ◌∙◌, ℕ, List, [], ◌∷◌, ◌++◌, ap, sym, subst, append_assoc, append-nil}
use Rattle.std.specs.List.{FoldsTo, concat}
use Rattle.std.specs.Fmt.{WritesInCalls}
use Rattle.dnsm_status.specs.Sinks.{AppendsTo}
use Rattle.dnsm_status.specs.CallerBuffers.{Holds}
use Rattle.dnsm_status.specs.declared.sink.Sink.{Sink}
use Rattle.dnsm_status.proofs.theory.PieceLemmas.{empty_held}

-- calls write their texts one after the other
each_written : (parts : List (List ℕ)) (old new : Sink) → FoldsTo AppendsTo old parts new → AppendsTo old (concat parts) new
each_written [] old new same = record {
  buffer = ap (λ (s : Sink). s.out.ghost_name) (sym same);
  text = λ text h. subst (λ (t : List ℕ). Holds new.out.now t new.end) (sym (append-nil text)) (subst (λ (s : Sink). Holds s.out.now text s.end) same h);
}
each_written (part ∷ parts) old new calls =
    let first = calls.1 in
    let others = each_written parts calls.0 new calls.2 in
    record {
      buffer = others.buffer ∙ first.buffer;
      text = λ text h. subst (λ (t : List ℕ). Holds new.out.now t new.end) (append_assoc text part (concat parts)) (others.text (text ++ part) (first.text text h));
    }

all_written : (old new : Sink) (text : List ℕ) → WritesInCalls AppendsTo old text new → AppendsTo old text new
all_written old new text calls = subst (λ (t : List ℕ). AppendsTo old t new) calls.whole (each_written calls.parts old new calls.calls)

-- A text that is printed at the beginning. `last` is what the buffer named `name` holds in the end.
pub printed : (old new : Sink) (text : List ℕ) (name : ℕ) (last : List ℕ) → (name ≡ new.out.ghost_name → last ≡ new.out.now) → name ≡ old.out.ghost_name
    → old.end ≡ 0 → WritesInCalls AppendsTo old text new
    → Holds last text new.end
printed old new text name last tie same start writes =
    let all = all_written old new text writes in
    let none = subst (λ (end : ℕ). Holds old.out.now [] end) (sym start) (empty_held old.out.now) in
    subst (λ (out : List ℕ). Holds out text new.end) (sym (tie (same ∙ sym all.buffer))) (all.text [] none)
