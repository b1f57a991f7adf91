-- Texts that are printed one after the other.
use Rattle.std.proofs.Common.{◌≡◌, ◌∙◌, ℕ, List, [], ◌∷◌, ◌++◌, refl, ap, sym, subst, append_assoc, append-nil}
use Rattle.std.specs.List.{FoldsTo, concat}
use Rattle.std.specs.Fmt.{WritesInCalls, DisplaysOnOk, DisplaysStyledOnOk, HasWritten, HasWrittenStyled, IsPlainFormatter, IsDefaultSpec, IsFlush}
use Rattle.std.specs.Prelude.{IfSome, Option, Some, None, Result}
use Rattle.std.specs.declared.fmt.Error.{Error}
use Rattle.std.specs.declared.fmt.Formatter.{Formatter}
use Rattle.dns_print.specs.Printing.{FormatterTakes, PrintsOnOk}

concat-append : (xs ys : List (List ℕ)) → concat (xs ++ ys) ≡ concat xs ++ concat ys
concat-append [] ys = refl
concat-append (x ∷ xs) ys = ap (λ (l : List ℕ). x ++ l) (concat-append xs ys) ∙ sym (append_assoc x (concat xs) (concat ys))

module _ {W : Type 0} (takes : W → List ℕ → W → Type 0) where
  chained : (w : W) (xs : List (List ℕ)) (v : W) (ys : List (List ℕ)) (u : W) → FoldsTo takes w xs v → FoldsTo takes v ys u → FoldsTo takes w (xs ++ ys) u
  chained w [] v ys u p q = subst (λ (x : W). FoldsTo takes x ys u) (sym p) q
  chained w (x ∷ xs) v ys u p q = (p.0, p.1, chained p.0 xs v ys u p.2 q)

  -- Nothing is printed.
  pub print_none : (w : W) → WritesInCalls takes w [] w
  print_none w = record { parts = []; calls = refl; whole = refl }

  -- One call.
  pub print_one : (w v : W) (text : List ℕ) → takes w text v → WritesInCalls takes w text v
  print_one w v text t = record { parts = text ∷ []; calls = (v, t, refl); whole = append-nil text }

  -- One text after the other.
  pub print_append : (w v u : W) (a b : List ℕ) → WritesInCalls takes w a v → WritesInCalls takes v b u → WritesInCalls takes w (a ++ b) u
  print_append w v u a b p q = record {
    parts = p.parts ++ q.parts;
    calls = chained w p.parts v q.parts u p.calls q.calls;
    whole = concat-append p.parts q.parts ∙ (λ i. p.whole i ++ q.whole i);
  }

  same_text : (w v : W) (a b : List ℕ) → a ≡ b → WritesInCalls takes w a v → WritesInCalls takes w b v
  same_text w v a b e = subst (λ (t : List ℕ). WritesInCalls takes w t v) e

  -- If two texts are printed in turn, the text that is both together is printed.
  pub print_two : (w v u : W) (a b all : List ℕ) → WritesInCalls takes w a v → WritesInCalls takes v b u → a ++ b ≡ all → WritesInCalls takes w all u
  print_two w v u a b all p q is = same_text w u _ all is (print_append w v u a b p q)

  -- If three texts are printed in turn, the text that is all three together is printed.
  pub print_three : (w v u t : W) (a b c all : List ℕ) → WritesInCalls takes w a v → WritesInCalls takes v b u → WritesInCalls takes u c t → a ++ (b ++ c) ≡ all → WritesInCalls takes w all t
  print_three w v u t a b c all p q r is = print_two w v t a (b ++ c) all p (print_append v u t b c q r) is

  -- If four texts are printed in turn, the text that is all four together is printed.
  pub print_four : (w v u t s : W) (a b c d all : List ℕ) → WritesInCalls takes w a v → WritesInCalls takes v b u → WritesInCalls takes u c t → WritesInCalls takes t d s
      → a ++ (b ++ (c ++ d)) ≡ all → WritesInCalls takes w all s
  print_four w v u t s a b c d all p q r o is = print_three w v u s a b (c ++ d) all p q (print_append u t s c d r o) is

-- Texts that a formatter took under some options.
module _ {W : Type 0} (gives : W → List ℕ → W → Type 0) where
  styled_calls : (f : Formatter W) (texts : List (List ℕ)) (g : Formatter W) → FoldsTo (FormatterTakes gives) f texts g → IsFlush f → HasWrittenStyled gives f (concat texts) g
  styled_calls f [] g same flush = subst (λ (x : Formatter W). HasWrittenStyled gives f [] x) same (record { wrote = print_none gives f.writer; spec = refl; flush = flush })
  styled_calls f (text ∷ texts) g calls flush =
      let first : HasWrittenStyled gives f text calls.0 = calls.1.written flush in
      let others = styled_calls calls.0 texts g calls.2 first.flush in
      record {
        wrote = print_append gives f.writer calls.0.writer g.writer text (concat texts) first.wrote others.wrote;
        spec = others.spec ∙ first.spec;
        flush = others.flush;
      }

  -- What a formatter took is written whatever its options are.
  pub printed_styled : (f : Formatter W) (text : List ℕ) (g : Formatter W) → WritesInCalls (FormatterTakes gives) f text g → IsFlush f → HasWrittenStyled gives f text g
  printed_styled f text g p flush = subst (λ (t : List ℕ). HasWrittenStyled gives f t g) p.whole (styled_calls f p.parts g p.calls flush)

  -- So it is written by a formatter without options.
  pub printed_plain : (f : Formatter W) (text : List ℕ) (g : Formatter W) → WritesInCalls (FormatterTakes gives) f text g → IsPlainFormatter f → HasWritten gives f text g
  printed_plain f text g p plain =
      let w = printed_styled f text g p plain.flush in
      record { wrote = w.wrote; plain = record { bare = subst IsDefaultSpec (sym w.spec) plain.bare; flush = w.flush } }

  -- The text of a value that may be unknown.
  pub displayed_plain : (f g : Formatter W) (r : Result (Unit {0}) Error) (o : Option (List ℕ)) → IfSome o (λ text. PrintsOnOk (FormatterTakes gives) f r text g) → DisplaysOnOk gives f r o g
  displayed_plain f g r None printed = tt
  displayed_plain f g r (Some text) printed = λ plain ok. printed_plain f text g (printed ok) plain

  -- If the text of a value is known and printing it succeeds, it is written whatever the options are.
  pub displayed_styled : (f g : Formatter W) (r : Result (Unit {0}) Error) (o : Option (List ℕ)) → IfSome o (λ text. PrintsOnOk (FormatterTakes gives) f r text g) → DisplaysStyledOnOk gives f r o g
  displayed_styled f g r None printed = tt
  displayed_styled f g r (Some text) printed = λ flush ok. printed_styled f text g (printed ok) flush

pub ruleset prints = (print_one, print_two, print_three, print_four, printed_styled, printed_plain)
